use Rattle.contacts.proofs.EntryLaws.{is_short, too_long}
use borrow.Author.Rules.{rules}
use Rattle.contacts.proofs.is_plain.Goals as goal

pub returns-then-t-le255 : goal.returns-then-t-le255
returns-then-t-le255 c = search (rules, is_short)

pub returns-else-t-le255 : goal.returns-else-t-le255
returns-else-t-le255 c = search (rules, too_long)
