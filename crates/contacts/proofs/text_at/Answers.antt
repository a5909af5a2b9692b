use native.Mathlib.Omega.{arith}
use Rattle.contacts.proofs.EntryLaws.{text_out, text_cut, text_mid}
use borrow.Author.Rules.{rules}
use Rattle.contacts.proofs.text_at.Goals as goal

pub returns-then-s-p : goal.returns-then-s-p
returns-then-s-p c = search (rules, text_out)

pub overflow_cast-n : goal.overflow_cast-n
overflow_cast-n c = omega (arith, c.shared_slice_known-1.given c.args.p)

pub overflow_add-from : goal.overflow_add-from
overflow_add-from c = omega arith

pub returns-then-s-from : goal.returns-then-s-from
returns-then-s-from c = search (rules, text_cut)

pub returns : goal.returns
returns c = search (rules, text_mid)
