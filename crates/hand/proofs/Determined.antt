-- Each public call's promise is met by one answer. That of `with_field`, a helper, leaves open the rows behind those in use, and all rows
-- where there is no room: nobody looks at them. A lent slice keeps its length, which `with_field` does not say again. Assumes nothing.
use Rattle.std.specs.Prelude.{Option}
use mathlib.Core.Path.{◌≡◌, ap, sym, ◌∙◌}
use contract.Lifetimes.{Lfts}
use denote.Triple.Clauses.{AtExit}
use borrow.Fn.Kinds.{Dens, res_t, ended_of}
use Prim.Native.Nat.{ℕ, ◌≤◌}
use native.Mathlib.Omega.{arith}
use lib.ListN.{length, take}
use Rattle.adif.specs.Records.{put}
use Rattle.adif.specs.Reading.{Row, row_name}
use mathlib.Core.List.{List}
use Rattle.hand.specs.Rows.{kept_of, Inserted}
use Rattle.hand.proofs.part.Reads as part
use Rattle.hand.proofs.part.Kinds as part-kinds
use Rattle.hand.proofs.with_field.Reads as with-field
use Rattle.hand.proofs.with_field.Kinds as with-field-kinds
use Rattle.hand.proofs.move_rows.Reads as move-rows
use Rattle.hand.proofs.move_rows.Kinds as move-rows-kinds

-- the bytes of the part that comes back
part_once : (κs : Lfts 1) (a : Dens κs part-kinds.ps) (x y : (res_t part-kinds.r κs).Denot) (d e : AtExit (ended_of 1 part-kinds.ps part-kinds.r) κs)
    → part.Post κs a x d → part.Post κs a y e → x.now ≡ y.now
part_once κs a x y d e p q = p ∙ sym q

module _ {want : List Row} {k m : Option ℕ} {r s : List Row} (same : length r ≡ length s) (p : Inserted k want r) (q : Inserted m want s) where
  inserted_once : k ≡ m
  inserted_once = p.kept ∙ ap (λ (n : ℕ). kept_of n (length want)) same ∙ sym q.kept

  inserted_rows : length want ≤ length r → take (length want) r ≡ take (length want) s
  inserted_rows fits = p.moved fits ∙ sym (q.moved (omega (arith, same, fits)))

-- the answer; and the rows in use, where there is room for them
module _ (κs : Lfts 2) (a : Dens κs with-field-kinds.ps) (x y : (res_t with-field-kinds.r κs).Denot) (d e : AtExit (ended_of 2 with-field-kinds.ps with-field-kinds.r) κs) (same : length d.1.0.now ≡ length e.1.0.now) (p : with-field.Post κs a x d) (q : with-field.Post κs a y e) where
  with_field_once : x ≡ y
  with_field_once = inserted_once same p q

  with_field_rows_once : let n = length (put (row_name a.0.now) a.1.1.1.0 (take a.1.1.0 a.1.0.now)) in n ≤ length d.1.0.now → take n d.1.0.now ≡ take n e.1.0.now
  with_field_rows_once = inserted_rows same p q

-- the table
move_rows_once : (κs : Lfts 2) (a : Dens κs move-rows-kinds.ps) (x y : (res_t move-rows-kinds.r κs).Denot) (d e : AtExit (ended_of 2 move-rows-kinds.ps move-rows-kinds.r) κs)
    → move-rows.Post κs a x d → move-rows.Post κs a y e → d.0.now ≡ e.0.now
move_rows_once κs a x y d e p q = p ∙ sym q
