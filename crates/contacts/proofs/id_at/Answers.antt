use Rattle.contacts.proofs.EntryLaws.{id_far, id_near}
use borrow.Author.Rules.{rules}
use Rattle.contacts.proofs.id_at.Goals as goal

pub returns-then-s-to : goal.returns-then-s-to
returns-then-s-to c = search (rules, id_far)

pub returns : goal.returns
returns c = search (rules, id_near)
