use borrow.Author.Rules.{rules}
use Rattle.tallies.specs.Tallies.{unmarked}
use Rattle.tallies.proofs.with_none.Goals as goal

pub returns : goal.returns
unfolding unmarked
returns c = search rules
