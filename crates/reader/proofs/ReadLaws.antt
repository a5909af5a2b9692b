-- The whole reading: the verdict on the text, the tags, and the zeros behind the rows. Assumes nothing.
use Rattle.std.specs.Prelude.{⊤, Result, Ok, Err}
use Rattle.reader.specs.declared.Reading.{Reading}
use mathlib.Core.Path.{◌≡◌, refl, sym}
use mathlib.Core.List.{List, ◌++◌}
use Prim.Native.Nat.{ℕ, ◌*◌, ◌-◌, ◌/◌, ◌^◌, ◌≤◌, ◌<◌}
use native.Mathlib.Omega.{arith}
use lib.ListN.{length, take}
use Rattle.refusals.specs.Refusals.{of_text}
use Rattle.refusals.specs.declared.Refusal.{Refusal}
use Rattle.adif.specs.Records.{records, refused, total}
use Rattle.adif.specs.Reading.{RowsRead, read_tags, read_text}
use Rattle.adif.proofs.Exactly.{fit_length}
use Rattle.reader.specs.Table.{laid_from, zeros, answer_of, table_of, answer_to, table_after, used_of, Shown}
use Rattle.reader.proofs.LaidLaws.{laid_from-length}

-- how much of the table is used
used_is : (o : RowsRead) (table : List ℕ) → Shown table o → used_of (answer_of o) ≤ length table
used_is (records rs) table S = omega (arith, S.1, laid_from-length 1 rs)
used_is (refused w) table S = omega arith

after_is : (o : RowsRead) (table : List ℕ) → Shown table o → take (used_of (answer_of o)) table ++ zeros (length table - used_of (answer_of o)) ≡ table_of o (length table)
after_is (records rs) table S =
    let e : total rs * 5 ≡ length (laid_from 1 rs) = omega (arith, laid_from-length 1 rs) in
    rw (e, S.0)
after_is (refused w) table S =
    let e : length table - 0 ≡ length table = omega arith in
    rw e refl

module _ (text before : List ℕ) where
  -- 1 and 2
  pub refused_answer : (w : Refusal) → Err w ≡ of_text text → Err w ≡ answer_to text before
  unfolding answer_to read_text
  refused_answer w e = rw (← e) refl

  pub refused_shown : (w : Refusal) → Err w ≡ of_text text → Shown before (read_text text (length before / 5))
  unfolding read_text
  refused_shown w e = rw (← e) tt

  module _ (e : ◌≡◌ {A = Result ⊤ Refusal} (Ok tt) (of_text text)) where
    pub short : length text ≤ 16777216
    short = fit_length text (sym e)

    pub read_answer_lem : (r : Result Reading Refusal) → r ≡ answer_of (read_tags text (length before / 5)) → r ≡ answer_to text before
    unfolding answer_to read_text
    read_answer_lem r q = rw (← e) q

    pub read_shown : (table : List ℕ) → Shown table (read_tags text (length before / 5)) → Shown table (read_text text (length before / 5))
    unfolding read_text
    read_shown table S = rw (← e) S

  module _ (r : Result Reading Refusal) (q : r ≡ answer_to text before) (table : List ℕ) (l : length table ≡ length before) (S : Shown table (read_text text (length before / 5))) where
    pub used_in : (u : ℕ) → u ≡ used_of r → u ≤ length table
    unfolding answer_to
    used_in u p = rw (p, q) (used_is (read_text text (length before / 5)) table S)

    pub used_fits : length before < 2 ^ 64 → used_of r ≤ 18446744073709551615
    used_fits b = omega (arith, used_in (used_of r) refl)

    pub read_table : (u : ℕ) → u ≡ used_of r → (after : List ℕ) → after ≡ take u table ++ zeros (length table - u) → after ≡ table_after text before
    unfolding table_after answer_to
    read_table u p after t =
        let d : take (used_of r) table ++ zeros (length table - used_of r) ≡ table_of (read_text text (length before / 5)) (length table)
        = rw q (after_is (read_text text (length before / 5)) table S) in
        rw (t, p, d, l) refl
