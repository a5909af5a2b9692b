use Rattle.text.specs.Space.{trim_end}
use Rattle.text.proofs.space.trim_end.Goals as goal

pub returns-clause-value : goal.returns-clause-value
unfolding trim_end
returns-clause-value c = cc
