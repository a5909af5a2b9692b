use Rattle.summary.proofs.SizeLaws.{found_is}
use Rattle.summary.proofs.found_size.Goals as goal

pub returns-clause-value : goal.returns-clause-value
returns-clause-value c = search found_is
