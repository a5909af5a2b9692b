use Rattle.tallies.proofs.TallyLaws.{target_zero, target_found, target_none}
use borrow.Author.Rules.{rules}
use Rattle.tallies.proofs.target_of.Goals as goal

pub returns-then-hit-eq0 : goal.returns-then-hit-eq0
returns-then-hit-eq0 c = search (rules, target_zero)

pub returns-then-fate : goal.returns-then-fate
returns-then-fate c = search (rules, target_found)

pub returns : goal.returns
returns c = search (rules, target_none)
