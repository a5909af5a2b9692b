-- What a row adds to what was heard. Assumes nothing.
use mathlib.Core.Path.{◌≡◌, refl, sym, ap, ◌∙◌}
use mathlib.Core.Bool.{Bool, true, false}
use mathlib.Core.List.{List, [], ◌∷◌}
use Prim.Native.Nat.{ℕ, ◌+◌, ◌-◌, ◌≤◌, ◌<◌}
use native.Mathlib.Omega.{arith}
use lib.ListN.{get_or, take, get_or-map}
use Rattle.text.specs.Pick.{pick, either}
use Rattle.text.specs.Ascii.{ascii}
use Rattle.letters.specs.Capitals.{raised}
use Rattle.letters.specs.Same.{same_raised}
use Rattle.letters.proofs.SameLaws.{same_raised_true}
use Rattle.rowcheck.specs.Check.{Row, name_in}
use Rattle.writer.specs.Rows.{row_at, rows_from}
use Rattle.writer.proofs.RowLaws.{row_before}
use Rattle.tables.specs.declared.Place.{Place}
use Rattle.tables.specs.Place.{value_place}
use Rattle.confirmations.specs.declared.Said.{Said}
use Rattle.confirmations.specs.declared.Heard.{Heard}
use Rattle.confirmations.specs.Confirmations.{begins}
use Rattle.confirmations.specs.Heard.{heard_of, said_with, heard_with, telling}

-- ---- two names
pub said_is : (name wanted dated : List ℕ) (v : Place) (was : Said) (a : Bool) → a ≡ same_raised name wanted → (b : Bool) → b ≡ same_raised name dated
    → (x d : Place) → x ≡ pick a v was.value → d ≡ pick b v was.date → (record { value = x; date = d }) ≡ said_with name v wanted dated was
unfolding said_with
said_is name wanted dated v was a ea b eb x d ex ed = rw (← ea, ← eb, ex, ed) refl

-- ---- all of them
pub heard_is : (name : List ℕ) (v : Place) (was : Heard) (l e q k : Said) (t ag o oe m ol : Bool)
    → l ≡ said_with name v (ascii "LOTW_QSL_RCVD") (ascii "LOTW_QSLRDATE") was.lotw
    → e ≡ said_with name v (ascii "EQSL_QSL_RCVD") (ascii "EQSL_QSLRDATE") was.eqsl
    → q ≡ said_with name v (ascii "APP_QRZLOG_STATUS") (ascii "APP_QRZLOG_QSLDATE") was.qrz
    → k ≡ said_with name v (ascii "QSL_RCVD") (ascii "QSLRDATE") was.card
    → t ≡ same_raised name (ascii "EQSL_AG") → ag ≡ either t was.has_ag
    → o ≡ begins (ascii "APP_EQSL") name → oe ≡ either o was.of_eqsl
    → m ≡ begins (ascii "APP_LOTW") name → ol ≡ either m was.of_lotw
    → (record { lotw = l; eqsl = e; qrz = q; card = k; has_ag = ag; of_eqsl = oe; of_lotw = ol }) ≡ heard_with name v was
unfolding heard_with
heard_is name v was l e q k t ag o oe m ol el ee eq ek et ea eo eoe em eol = rw (← el, ← ee, ← eq, ← ek, ← et, ← ea, ← eo, ← eoe, ← em, ← eol) refl

-- ---- a name of other letters tells nothing
false_of : (t : Bool) → (t ≡ true → ⊥) → t ≡ false
false_of true h = absurd (h refl)
false_of false h = refl

alike : (name wanted : List ℕ) → same_raised name wanted ≡ true → (k : ℕ) → raised (get_or name k 0) ≡ raised (get_or wanted k 0)
unfolding raised
alike name wanted e k =
    sym (get_or-map raised name k 0) ∙ ap (λ (l : List ℕ). get_or l k 0) (same_raised_true name wanted e) ∙ get_or-map raised wanted k 0

third_of : (xs : List ℕ) → get_or (take 8 xs) 2 0 ≡ get_or xs 2 0
third_of [] = refl
third_of (x ∷ []) = refl
third_of (x ∷ y ∷ []) = refl
third_of (x ∷ y ∷ z ∷ xs) = refl

first_of : (xs : List ℕ) → get_or (take 8 xs) 0 0 ≡ get_or xs 0 0
first_of [] = refl
first_of (x ∷ xs) = refl

module _ (name : List ℕ) (a c : ℕ) (ea : a ≡ get_or name 0 0) (ec : c ≡ get_or name 2 0) (t : Bool) (et : t ≡ telling a c) (h : t ≡ false) where
  silent : telling (get_or name 0 0) (get_or name 2 0) ≡ true → ⊥
  silent y =
      let n : ◌≡◌ {A = Bool} true false = sym y ∙ rw (← ea, ← ec) (sym et ∙ h) in
      let o : ◌≡◌ {A = ℕ} 0 1 = cc in
      omega arith

  lacks : (wanted : List ℕ) → telling (get_or wanted 0 0) (get_or wanted 2 0) ≡ true → same_raised name wanted ≡ false
  unfolding telling
  lacks wanted y = false_of (same_raised name wanted) (λ e. silent (rw (alike name wanted e 0, alike name wanted e 2) y))

  lacks_front : (wanted : List ℕ) → telling (get_or wanted 0 0) (get_or wanted 2 0) ≡ true → same_raised (take 8 name) wanted ≡ false
  unfolding telling
  lacks_front wanted y =
      false_of (same_raised (take 8 name) wanted)
      (λ e.
      silent
      (rw (sym (ap raised (first_of name)) ∙ alike (take 8 name) wanted e 0, sym (ap raised (third_of name)) ∙ alike (take 8 name) wanted e 2) y))

  pub quiet : (v : Place) (was : Heard) → was ≡ heard_with name v was
  unfolding heard_with said_with telling raised
  quiet v was =
      simp
      (lacks (ascii "LOTW_QSL_RCVD") refl, lacks (ascii "LOTW_QSLRDATE") refl, lacks (ascii "EQSL_QSL_RCVD") refl, lacks (ascii "EQSL_QSLRDATE") refl, lacks (ascii "APP_QRZLOG_STATUS") refl, lacks (ascii "APP_QRZLOG_QSLDATE") refl, lacks (ascii "QSL_RCVD") refl, lacks (ascii "QSLRDATE") refl, lacks (ascii "EQSL_AG") refl, lacks_front (ascii "APP_EQSL") refl, lacks_front (ascii "APP_LOTW") refl)
      refl

-- a row that is passed over, and one that is not
module _ (text : List ℕ) (row : Row) (was : Heard) (name : List ℕ) (en : name ≡ name_in text row) where
  row_passed : (a c : ℕ) (t : Bool) → a ≡ get_or name 0 0 → c ≡ get_or name 2 0 → t ≡ telling a c → t ≡ false → was ≡ heard_with (name_in text row) (value_place row) was
  row_passed a c t ea ec et h = quiet name a c ea ec t et h (value_place row) was ∙ ap (λ (n : List ℕ). heard_with n (value_place row) was) en

  row_heard : (v : Place) (r : Heard) → v ≡ value_place row → r ≡ heard_with name v was → r ≡ heard_with (name_in text row) (value_place row) was
  row_heard v r ev er = er ∙ rw (en, ev) refl

-- ---- the rows from the last to the first
pub no_rows : (text t : List ℕ) (first count : ℕ) (h : Heard) → h ≡ heard_of [] [] → h ≡ heard_of text (rows_from t (first + count) (count - count))
unfolding heard_of
no_rows text t first count h e =
    let z : count - count ≡ 0 = omega arith in
    e ∙ rw z refl

one_more : (text : List ℕ) (r : Row) (rs : List Row) → heard_of text (r ∷ rs) ≡ heard_with (name_in text r) (value_place r) (heard_of text rs)
unfolding heard_of heard_with said_with
one_more text r rs = refl

row_on : (text t : List ℕ) (first count i : ℕ) (was : Heard) (row : Row) (now : Heard) → 0 < i → i ≤ count
    → was ≡ heard_of text (rows_from t (first + i) (count - i)) → row ≡ row_at t (first + (i - 1)) → now ≡ heard_with (name_in text row) (value_place row) was
    → now ≡ heard_of text (rows_from t (first + (i - 1)) (count - (i - 1)))
row_on text t first count i was row now h l ew er en =
    en
    ∙ rw (er, ew) (sym (one_more text (row_at t (first + (i - 1))) (rows_from t (first + i) (count - i))))
    ∙ ap (heard_of text) (sym (row_before t first count i h l))

module _ (text t : List ℕ) (first count i : ℕ) (was : Heard) (row : Row) (name : List ℕ) (h : 0 < i) (l : i ≤ count)
    (ew : was ≡ heard_of text (rows_from t (first + i) (count - i))) (er : row ≡ row_at t (first + (i - 1))) (en : name ≡ name_in text row) where
  pub row_silent : (a c : ℕ) (b : Bool) → a ≡ get_or name 0 0 → c ≡ get_or name 2 0 → b ≡ telling a c → b ≡ false
      → was ≡ heard_of text (rows_from t (first + (i - 1)) (count - (i - 1)))
  row_silent a c b ea ec eb n = row_on text t first count i was row was h l ew er (row_passed text row was name en a c b ea ec eb n)

  pub row_told : (v : Place) (r : Heard) → v ≡ value_place row → r ≡ heard_with name v was → r ≡ heard_of text (rows_from t (first + (i - 1)) (count - (i - 1)))
  row_told v r ev e = row_on text t first count i was row r h l ew er (row_heard text row was name en v r ev e)

pub all_rows : (text t : List ℕ) (first count i : ℕ) (h : Heard) → i ≤ 0 → h ≡ heard_of text (rows_from t (first + i) (count - i)) → h ≡ heard_of text (rows_from t first count)
all_rows text t first count i h z e =
    let y : first + i ≡ first = omega arith in
    let x : count - i ≡ count = omega arith in
    rw (y, x) at e
