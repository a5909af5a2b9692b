use Rattle.counted.proofs.AlikeLaws.{bit_none, bit_some}
use borrow.Author.Rules.{rules}
use Rattle.counted.proofs.has_service.Goals as goal

pub returns-else-s-ne0 : goal.returns-else-s-ne0
returns-else-s-ne0 c = search (rules, bit_none)

pub returns-then-s-ne0 : goal.returns-then-s-ne0
returns-then-s-ne0 c = search (rules, bit_some)
