use Rattle.search.specs.Steps.{entry_in}
use Rattle.search.proofs.entry_in.Goals as goal

pub returns : goal.returns
unfolding entry_in
returns c = c.saturating_sub.ensures
