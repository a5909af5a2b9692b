use Rattle.contacts.proofs.EntryLaws.{good_long, good_size, good_head, good_texts}
use borrow.Author.Rules.{rules}
use Rattle.contacts.proofs.is_good.Goals as goal

pub returns-then-s-end : goal.returns-then-s-end
returns-then-s-end c = search (rules, good_long)

pub returns-then-at-number_at : goal.returns-then-at-number_at
returns-then-at-number_at c = search (rules, good_size)

pub returns-then-not-is_sound_head : goal.returns-then-not-is_sound_head
returns-then-not-is_sound_head c = search (rules, good_head)

pub returns : goal.returns
returns c = search (rules, good_texts)
