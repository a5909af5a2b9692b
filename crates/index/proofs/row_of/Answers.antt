use Rattle.index.specs.Rows.{row_of}
use Rattle.index.proofs.row_of.Goals as goal

pub returns : goal.returns
unfolding row_of
returns c = cc
