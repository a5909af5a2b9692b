use Rattle.contacts.proofs.EntryLaws.{no_head, head_is}
use borrow.Author.Rules.{rules}
use Rattle.contacts.proofs.is_sound_head.Goals as goal

pub returns-then-id-le-LARGEST_ID : goal.returns-then-id-le-LARGEST_ID
returns-then-id-le-LARGEST_ID c = search (rules, head_is)

pub returns-else-id-le-LARGEST_ID : goal.returns-else-id-le-LARGEST_ID
returns-else-id-le-LARGEST_ID c = search (rules, no_head)
