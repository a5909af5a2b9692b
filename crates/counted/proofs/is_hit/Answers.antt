use Rattle.counted.proofs.AlikeLaws.{not_served, served}
use borrow.Author.Rules.{rules}
use Rattle.counted.proofs.is_hit.Goals as goal

pub returns-then-has_service : goal.returns-then-has_service
returns-then-has_service c = search (rules, served)

pub returns-else-has_service : goal.returns-else-has_service
returns-else-has_service c = search (rules, not_served)
