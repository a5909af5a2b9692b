use Rattle.contacts.proofs.EntryLaws.{no_date, date_is}
use borrow.Author.Rules.{rules}
use Rattle.contacts.proofs.is_date.Goals as goal

pub returns-then-d-eq-DATE : goal.returns-then-d-eq-DATE
returns-then-d-eq-DATE c = search (rules, date_is)

pub returns-else-d-eq-DATE : goal.returns-else-d-eq-DATE
returns-else-d-eq-DATE c = search (rules, no_date)
