use Rattle.listwriter.specs.Append.{long_texts}
use Rattle.listwriter.proofs.are_long.Goals as goal

pub returns : goal.returns
unfolding long_texts
returns c = cc
