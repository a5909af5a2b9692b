-- The promises of `number_in`, `with_number` and `key_in` are met by one answer each, that of `fill` by one table of rows. Assumes nothing.
use mathlib.Core.Path.{◌≡◌, sym, ◌∙◌}
use contract.Lifetimes.{Lfts}
use denote.Triple.Clauses.{AtExit}
use borrow.Fn.Kinds.{Dens, res_t, ended_of}
use Rattle.text.proofs.Once.{Once}
use Rattle.entries.proofs.number_in.Reads as number_in
use Rattle.entries.proofs.number_in.Kinds as number-in-kinds
use Rattle.entries.proofs.with_number.Reads as with_number
use Rattle.entries.proofs.with_number.Kinds as with-number-kinds
use Rattle.entries.proofs.key_in.Reads as key_in
use Rattle.entries.proofs.key_in.Kinds as key-in-kinds
use Rattle.entries.proofs.fill.Reads as fill
use Rattle.entries.proofs.fill.Kinds as fill-kinds

number_in_once : Once 0 number-in-kinds.ps number-in-kinds.r number_in.Post
number_in_once κs a x y d e p q = p ∙ sym q

with_number_once : Once 0 with-number-kinds.ps with-number-kinds.r with_number.Post
with_number_once κs a x y d e p q = p ∙ sym q

key_in_once : Once 0 key-in-kinds.ps key-in-kinds.r key_in.Post
key_in_once κs a x y d e p q = p ∙ sym q

fill_once : (κs : Lfts 3) (a : Dens κs fill-kinds.ps) (x y : (res_t fill-kinds.r κs).Denot) (d e : AtExit (ended_of 3 fill-kinds.ps fill-kinds.r) κs)
    → fill.Post κs a x d → fill.Post κs a y e → d.1.1.1.0.now ≡ e.1.1.1.0.now
fill_once κs a x y d e p q = p.0 ∙ sym q.0
