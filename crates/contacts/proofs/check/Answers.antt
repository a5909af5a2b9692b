use Rattle.contacts.proofs.ListLaws.{list_long, list_none, list_other, list_short, list_entries}
use borrow.Author.Rules.{rules}
use Rattle.contacts.proofs.check.Goals as goal

pub returns-then-list-gt-LONGEST-clause-value : goal.returns-then-list-gt-LONGEST-clause-value
returns-then-list-gt-LONGEST-clause-value c = search (rules, list_long)

pub returns-then-is_empty-clause-value : goal.returns-then-is_empty-clause-value
returns-then-is_empty-clause-value c = search (rules, list_none)

pub returns-then-list-ne-VERSION-clause-value : goal.returns-then-list-ne-VERSION-clause-value
returns-then-list-ne-VERSION-clause-value c = search (rules, list_other)

pub returns-then-list-lt-ENTRIES-clause-value : goal.returns-then-list-lt-ENTRIES-clause-value
returns-then-list-lt-ENTRIES-clause-value c = search (rules, list_short)

pub returns-clause-value : goal.returns-clause-value
returns-clause-value c = search (rules, list_entries)
