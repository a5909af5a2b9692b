use Rattle.summary.proofs.SizeLaws.{line_is}
use Rattle.summary.proofs.summary_size.Goals as goal

pub returns : goal.returns
returns c = search line_is
