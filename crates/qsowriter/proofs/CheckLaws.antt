-- The extra rows, checked one after the other. Assumes nothing.
use Rattle.std.specs.Prelude.{⊤, Result, Ok, Err}
use Rattle.refusals.specs.declared.Refusal.{Refusal}
use mathlib.Core.Path.{◌≡◌, refl, sym, ◌∙◌}
use mathlib.Core.Bool.{Bool, true, false}
use mathlib.Core.List.{List, [], ◌∷◌}
use Prim.Native.Nat.{ℕ, zero, suc, ◌+◌, ◌-◌, ◌*◌, ◌≤◌, ◌<◌}
use native.Mathlib.Nat.{sub-zero}
use native.Mathlib.Omega.{arith}
use lib.Dec.{leb}
use lib.ListN.{length}
use borrow.Author.Tests.{le-leb}
use Rattle.text.specs.Pick.{pick, both}
use Rattle.refusals.specs.declared.Refusal.TheVariants.{BadRow, BadName, ManyNames}
use Rattle.adif.specs.Grammar.{Field}
use Rattle.rowcheck.specs.Check.{Row, name_in, placed, sound, follows, writable, counted, verdict, and_then}
use Rattle.rowcheck.proofs.FineLaws.{few_names}
use Rattle.writer.specs.Rows.{row_at, rows_from, rows_of}
use Rattle.writer.proofs.RowLaws.{rows_cons}
use Rattle.cells.specs.Cells.{column_order, cell_fields}
use Rattle.cells.specs.declared.Cell.{Cell}
use Rattle.qsowriter.specs.Writing.{is_taken, count_with, row_verdict, is_above, rows_after, extra_verdict}
use Rattle.qsowriter.specs.Steps.{taken_by, written_count, as_first}
use Rattle.qsowriter.proofs.TakenLaws.{taken_is, count_is}

-- ---- a row, as a row of record 1
by_tests : (p s o w m : Bool)
    → ◌≡◌ {A = Result ⊤ Refusal} (pick p (pick s (pick o (pick w (pick m (Ok tt) (Err (ManyNames 0))) (Err BadName)) (Err BadRow)) (Err BadRow)) (Err BadRow))
    (pick (both (both p s) o) (pick w (pick m (Ok tt) (Err (ManyNames 0))) (Err BadName)) (Err BadRow))
by_tests true true true w m = refl
by_tests true true false w m = refl
by_tests true false o w m = refl
by_tests false s o w m = refl

module _ (text : List ℕ) (fs : List Field) (c : ℕ) (p r : Row) (taken : Bool) (et : taken ≡ is_taken fs (name_in text r)) where
  many : leb c 256 ≡ true → leb (pick taken 0 c + 1) 256 ≡ leb (count_with text fs c r) 256
  many h = rw (← et) (by taken)
    where
      by : (t : Bool) → leb (pick t 0 c + 1) 256 ≡ leb (pick t c (c + 1)) 256
      by true = sym h
      by false = refl

  first_row : c ≤ 13 → (w : ℕ) → verdict text 0 w p (as_first r) ≡ row_verdict text fs c true r
  unfolding verdict placed sound follows counted
  first_row h w =
      let y : leb (count_with text fs c r) 256 ≡ true = rw (← et) (by taken) in
      rw y (by_tests (placed text r) (sound text r) true (writable (name_in text r)) true)
    where
      by : (t : Bool) → leb (pick t c (c + 1)) 256 ≡ true
      by true = le-leb c 256 (omega arith)
      by false = le-leb (c + 1) 256 (omega arith)

  next_row : c ≤ 256 → verdict text 1 (pick taken 0 c) p (as_first r) ≡ row_verdict text fs c (is_above text p r) r
  unfolding verdict placed sound follows counted
  next_row h =
      rw (many (le-leb c 256 h)) (by_tests (placed text r) (sound text r) (is_above text p r) (writable (name_in text r)) (leb (count_with text fs c r) 256))

-- ---- what is still to be checked: n is 0 before the first row and 1 after it
abbrev going : List ℕ → List Field → ℕ → ℕ → Row → List Row → Result ⊤ Refusal
going text fs zero c p [] = Ok tt
going text fs zero c p (r ∷ rs) = and_then (row_verdict text fs c true r) (rows_after text fs (count_with text fs c r) r rs)
going text fs (suc n) c p rs = rows_after text fs c p rs

starts : (text : List ℕ) (fs : List Field) (p : Row) (rs : List Row) → going text fs zero (length fs) p rs ≡ extra_verdict text fs rs
unfolding extra_verdict
starts text fs p [] = refl
starts text fs p (r ∷ rs) = refl

none_left : (text : List ℕ) (fs : List Field) (n c : ℕ) (p : Row) → going text fs n c p [] ≡ Ok tt
none_left text fs zero c p = refl
none_left text fs (suc n) c p = refl

as_first_lem : (text : List ℕ) (fs : List Field) (c : ℕ) (r : Row) (rs : List Row) → rows_after text fs c (as_first r) rs ≡ rows_after text fs c r rs
as_first_lem text fs c r [] = refl
as_first_lem text fs c r (s ∷ rs) = refl

one_row : (text : List ℕ) (fs : List Field) (n c : ℕ) (p r : Row) (rs : List Row) (taken : Bool) → taken ≡ is_taken fs (name_in text r) → n ≤ 1 → c ≤ 13 + n * 243
    → going text fs n c p (r ∷ rs) ≡ and_then (verdict text n (pick taken 0 c) p (as_first r)) (rows_after text fs (pick taken c (c + 1)) (as_first r) rs)
one_row text fs zero c p r rs taken et a b = rw (first_row text fs c p r taken et (omega arith) (pick taken 0 c), et, as_first_lem text fs (count_with text fs c r) r rs) refl
one_row text fs (suc zero) c p r rs taken et a b = rw (next_row text fs c p r taken et (omega arith), et, as_first_lem text fs (count_with text fs c r) r rs) refl
one_row text fs (suc (suc n)) c p r rs taken et a b = absurd (omega arith)

-- ---- the loop
unfoldable pub Checking : List ℕ → List Cell → List ℕ → ℕ → ℕ → ℕ → Row → ℕ → Type 0
Checking text cells t count n c p i =
    going text (cell_fields text column_order cells) n c p (rows_from t i (count - i)) ≡ extra_verdict text (cell_fields text column_order cells) (rows_of t count)

pub check_start : (text : List ℕ) (cells : List Cell) (t : List ℕ) (count c : ℕ) (p : Row) → length cells ≡ 13 → c ≡ written_count cells → Checking text cells t count 0 c p 0
unfolding Checking rows_of column_order
check_start text cells t count c p l e =
    let z : c ≡ length (cell_fields text column_order cells) = e ∙ sym (count_is text column_order cells (sym l)) in
    rw (z, sub-zero count) (starts text (cell_fields text column_order cells) p (rows_from t 0 count))

pub check_end : (text : List ℕ) (cells : List Cell) (t : List ℕ) (count n c : ℕ) (p : Row) (i : ℕ) → count ≤ i → Checking text cells t count n c p i
    → Ok tt ≡ extra_verdict text (cell_fields text column_order cells) (rows_of t count)
unfolding Checking
check_end text cells t count n c p i h q =
    let z : count - i ≡ 0 = omega arith in
    sym (none_left text (cell_fields text column_order cells) n c p) ∙ (rw z at q)

counted_more : (c : ℕ) (r : Row) → counted 1 c (as_first r) ≤ 256 → c + 1 ≤ 256
unfolding counted
counted_more c r h = h

pub few_in_the_way : (taken : Bool) (n c w : ℕ) → w ≡ pick taken 0 c → n ≤ 1 → c ≤ 13 + n * 243 → w ≤ 256
few_in_the_way true n c w e a b = omega arith
few_in_the_way false n c w e a b = omega arith

module _ (text : List ℕ) (cells : List Cell) (t : List ℕ) (count n c : ℕ) (p : Row) (i : ℕ) (h : i < count) (a : n ≤ 1) (b : c ≤ 13 + n * 243)
    (row : Row) (er : row ≡ as_first (row_at t i)) (name : List ℕ) (en : name ≡ name_in text row) (taken : Bool) (et : taken ≡ taken_by column_order cells name)
    (w : ℕ) (ew : w ≡ pick taken 0 c) (v : Result ⊤ Refusal) (ev : v ≡ verdict text n w p row) where
  abbrev fs : List Field
  fs = cell_fields text column_order cells

  is_taken_lem : taken ≡ is_taken fs (name_in text (row_at t i))
  is_taken_lem = et ∙ rw (en, er) (sym (taken_is text column_order cells (name_in text (row_at t i))))

  from : going text fs n c p (rows_from t i (count - i)) ≡ and_then v (rows_after text fs (pick taken c (c + 1)) row (rows_from t (i + 1) (count - (i + 1))))
  from = rw (rows_cons t count i h, ev, ew, er) (one_row text fs n c p (row_at t i) (rows_from t (i + 1) (count - (i + 1))) taken is_taken_lem a b)

  pub check_stop : (why : Refusal) → v ≡ Err why → Checking text cells t count n c p i → Err why ≡ extra_verdict text (cell_fields text column_order cells) (rows_of t count)
  unfolding Checking
  check_stop why g q = rw g at (sym from ∙ q)

  module _ (g : v ≡ Ok tt) (d : ℕ) (ed : d ≡ pick taken c (c + 1)) where
    pub check_on : Checking text cells t count n c p i → Checking text cells t count 1 d row (i + 1)
    unfolding Checking
    check_on q = rw ed (sym (from ∙ rw g refl) ∙ q)

    pub check_few : d ≤ 256
    check_few = by n taken w p row ew a b ed (sym ev ∙ g) er
      where
        by : (n : ℕ) (taken : Bool) (w : ℕ) (p row : Row) → w ≡ pick taken 0 c → n ≤ 1 → c ≤ 13 + n * 243 → d ≡ pick taken c (c + 1) → verdict text n w p row ≡ Ok tt
            → row ≡ as_first (row_at t i) → d ≤ 256
        by zero true w p row ew a b ed k er = omega arith
        by zero false w p row ew a b ed k er = omega arith
        by (suc zero) true w p row ew a b ed k er = omega arith
        by (suc zero) false w p row ew a b ed k er =
            let m : c + 1 ≤ 256 = counted_more c (row_at t i) (few_names text 1 c p (as_first (row_at t i)) (rw (← er, ← ew) k)) in
            omega arith
        by (suc (suc n)) taken w p row ew a b ed k er = absurd (omega arith)
