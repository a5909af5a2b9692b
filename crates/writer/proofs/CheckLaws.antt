-- The pass that checks and measures the rows. Assumes nothing.
use Rattle.std.specs.Prelude.{⊤, Result, Ok, Err}
use Rattle.refusals.specs.declared.Refusal.{Refusal}
use mathlib.Core.Path.{◌≡◌, refl, sym, ap, ◌∙◌}
use mathlib.Core.Bool.{Bool}
use mathlib.Core.List.{List, [], ◌∷◌, ◌++◌}
use Prim.Native.Nat.{ℕ, ◌+◌, ◌-◌, ◌≤◌, ◌<◌}
use native.Mathlib.Nat.{sub-zero}
use native.Mathlib.Omega.{arith}
use lib.ListN.{length, length-append}
use Rattle.fields.specs.Written.{field_text}
use Rattle.rowcheck.specs.Check.{Row, record_in, counted, verdict, and_then, check_from, check_of}
use Rattle.rowcheck.proofs.FineLaws.{few_names, few_records, Tally, tally_on, tally_few}
use Rattle.writer.specs.Rows.{row_at, rows_from, rows_of, row_field, ends_before, end_text, rows_text}
use Rattle.writer.specs.Answer.{checked_of}
use Rattle.writer.proofs.RowLaws.{rows_cons, left, left_all, left_cons}

-- the rows from i on, after row p, the c-th of record n: they decide the verdict, and what they take is still to be counted
unfoldable pub Checking : List ℕ → List ℕ → ℕ → ℕ → ℕ → Row → ℕ → ℕ → Type 0
Checking text t count n c p size i =
    (check_from text n c p (rows_from t i (count - i)) ≡ check_of text (rows_of t count)) × (size + length (left text t count i) ≡ length (rows_text text (rows_of t count)))

pub check_start : (text t : List ℕ) (count : ℕ) → Checking text t count 0 0 (0 ∷ 0 ∷ 0 ∷ 0 ∷ 0 ∷ []) 0 0
unfolding Checking check_of rows_of
check_start text t count = (rw (sub-zero count) refl, omega (arith, ap length (left_all text t count)))

module _ (text t : List ℕ) (count n c : ℕ) (p : Row) (size i : ℕ) (h : i < count) (row : Row) (er : row ≡ row_at t i) where
  abbrev v : Result ⊤ Refusal
  v = verdict text n c p row

  from : check_from text n c p (rows_from t i (count - i)) ≡ and_then v (check_from text (record_in row) (counted n c row) row (rows_from t (i + 1) (count - (i + 1))))
  unfolding check_from
  from = rw (rows_cons t count i h, er) refl

  pub check_stop : (why : Refusal) → Err why ≡ v → Checking text t count n c p size i → Err why ≡ checked_of text (rows_of t count)
  unfolding Checking checked_of
  check_stop why e q = rw (← q.0, from, ← e) refl

  module _ (e : ◌≡◌ {A = Result ⊤ Refusal} (Ok tt) v) where
    module _ (m : ℕ) (em : m ≡ record_in row) where
      pub check_record : m ≤ 65535
      check_record = rw em (few_records text n c p row (sym e))

    module _ (c' : ℕ) (ec : c' ≡ counted n c row) where
      pub check_names : c' ≤ 256
      check_names = rw ec (few_names text n c p row (sym e))

    module _ (m c' : ℕ) (em : m ≡ record_in row) (ec : c' ≡ counted n c row) where
      pub check_tally : c ≤ 256 → Tally n c i → Tally m c' (i + 1)
      check_tally b q = rw (em, ec) (tally_on text n c i p row (sym e) b q)

      pub check_few : c ≤ 256 → Tally n c i → i + 1 ≤ 16776960
      check_few b q = tally_few m c' (i + 1) (check_record m em) (check_names c' ec) (check_tally b q)

      pub check_on : (ends : Bool) (k : ℕ) → ends ≡ ends_before (record_in (row_at t i)) (rows_from t (i + 1) (count - (i + 1)))
          → k ≡ length (field_text (row_field text row) ++ end_text ends) → Checking text t count n c p size i → Checking text t count m c' row (size + k) (i + 1)
      unfolding Checking
      check_on ends k ee ek q = (
        rw (em, ec) (sym (from ∙ rw (← e) refl) ∙ q.0),
        omega (arith, q.1, ek, ap length (left_cons text t count i h row er ends ee), length-append (field_text (row_field text row) ++ end_text ends) (left text t count (i + 1))),
      )

pub check_end : (text t : List ℕ) (count n c : ℕ) (p : Row) (size i : ℕ) → count ≤ i → Checking text t count n c p size i → Ok size ≡ checked_of text (rows_of t count)
unfolding Checking checked_of check_from rows_text
check_end text t count n c p size i h q =
    let z : count - i ≡ 0 = omega arith in
    let a : (Ok tt) ≡ check_of text (rows_of t count) = rw z at q.0 in
    let b : size + 0 ≡ length (rows_text text (rows_of t count)) = rw z at q.1 in
    let b' : size ≡ length (rows_text text (rows_of t count)) = omega arith in
    rw (← a, ← b') refl
