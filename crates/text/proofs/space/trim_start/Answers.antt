use Rattle.text.specs.Space.{trim_start}
use Rattle.text.proofs.space.trim_start.Goals as goal

pub returns-clause-value : goal.returns-clause-value
unfolding trim_start
returns-clause-value c = c.spaces.ensures.value
