use Rattle.summary.proofs.SizeLaws.{confirmed_is}
use Rattle.summary.proofs.confirmed_size.Goals as goal

pub returns-clause-value : goal.returns-clause-value
returns-clause-value c = search confirmed_is
