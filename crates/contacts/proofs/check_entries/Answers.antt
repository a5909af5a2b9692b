use borrow.Author.Rules.{rules}
use Rattle.contacts.proofs.ListLaws.{entries_start, entries_bad, entries_low, entries_inside, entries_on, entries_short, entries_end}
use Rattle.contacts.proofs.check_entries.Goals as goal

pub loop-k-init : goal.loop-k-init
loop-k-init c = (search rules, search (rules, entries_start))

pub returns-then-not-is_good-clause-value : goal.returns-then-not-is_good-clause-value
returns-then-not-is_good-clause-value c = search (rules, entries_bad)

pub returns-then-id-last-clause-value : goal.returns-then-id-last-clause-value
returns-then-id-last-clause-value c = search (rules, entries_low)

pub loop-k-preserved : goal.loop-k-preserved
loop-k-preserved c = (search (rules, entries_inside), search (rules, entries_on))

pub returns-then-at-s-clause-value : goal.returns-then-at-s-clause-value
returns-then-at-s-clause-value c = search (rules, entries_short)

pub returns-clause-value : goal.returns-clause-value
returns-clause-value c = search (rules, entries_end)
