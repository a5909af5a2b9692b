use Rattle.summary.proofs.SizeLaws.{left_is}
use Rattle.summary.proofs.left_out_size.Goals as goal

pub returns-clause-value : goal.returns-clause-value
returns-clause-value c = search left_is
