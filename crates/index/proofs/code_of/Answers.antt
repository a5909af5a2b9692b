use Rattle.index.specs.Rows.{code_of}
use Rattle.index.proofs.code_of.Goals as goal

pub returns : goal.returns
unfolding code_of
returns c = cc
