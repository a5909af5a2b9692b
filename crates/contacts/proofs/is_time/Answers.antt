use Rattle.contacts.proofs.EntryLaws.{no_time, time_is}
use borrow.Author.Rules.{rules}
use Rattle.contacts.proofs.is_time.Goals as goal

pub returns-then-t-eq-LONG_TIME : goal.returns-then-t-eq-LONG_TIME
returns-then-t-eq-LONG_TIME c = search (rules, time_is)

pub returns-else-t-eq-LONG_TIME : goal.returns-else-t-eq-LONG_TIME
returns-else-t-eq-LONG_TIME c = search (rules, no_time)
