use native.Mathlib.Omega.{arith}
use Rattle.output.specs.Put.{Room}
use Rattle.contacts.specs.Contacts.{bytes_of}
use Rattle.listwriter.proofs.AppendLaws.{behind_long, behind_short, behind_room, behind_count, behind_done}
use borrow.Author.Rules.{rules}
use Rattle.listwriter.proofs.put_behind.Goals as goal

pub returns-then-end-gt-LONGEST : goal.returns-then-end-gt-LONGEST
returns-then-end-gt-LONGEST c = search (rules, behind_long)

pub returns-then-out-end : goal.returns-then-out-end
returns-then-out-end c = search (rules, behind_short)

pub put_entry-requires : goal.put_entry-requires
put_entry-requires c = (search (rules, behind_room), search rules)

pub put_number-requires : goal.put_number-requires
unfolding Room bytes_of
put_number-requires c = (search (rules, behind_count), omega arith)

pub returns : goal.returns
returns c = search (rules, behind_done)
