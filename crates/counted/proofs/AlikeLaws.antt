-- A service's bit, and two records that confirm the same thing. Assumes nothing.
use mathlib.Core.Path.{◌≡◌, refl, sym, ◌∙◌}
use mathlib.Core.Bool.{Bool, true, false, not}
use mathlib.Core.List.{List}
use Prim.Native.Nat.{ℕ, zero, suc, ◌/◌, ◌%◌}
use native.Mathlib.Nat.{zero-div}
use native.Mathlib.Omega.{arith}
use lib.ListN.{get_or}
use lib.Dec.{eqb, ltb}
use borrow.Author.Tests.{eqb-true, eq-eqb, ne_eqb, lt-ltb}
use Rattle.text.specs.Pick.{both}
use Rattle.text.specs.Space.{trimmed}
use Rattle.text.proofs.BoolLaws.{cases, never, both_left, both_right, both_no, both_yes}
use Rattle.letters.specs.Same.{same, same_raised}
use Rattle.letters.proofs.SameLaws.{same_true, same_raised_true}
use Rattle.tables.specs.Place.{bytes}
use Rattle.index.specs.Rows.{code_of}
use Rattle.dedupe.specs.Keys.{unmatched}
use Rattle.dedupe.specs.Views.{keys_unmatched}
use Rattle.dedupe.specs.declared.Key.{Key}
use Rattle.plan.specs.Confirmed.{has_bit}
use Rattle.entries.specs.Row.{Row, call_in, mode_in, band_in, key_in, file_code}
use Rattle.counted.specs.Counted.{rows_alike, keys_tested, rows_tested, code_in}

-- ---- a bit
pub bit_none : (byte s : ℕ) → s ≡ 0 → not (eqb s 0) ≡ has_bit byte s
unfolding has_bit
bit_none byte s e = rw e refl

pub bit_some : (byte s : ℕ) → (s ≡ 0 → ⊥) → eqb (byte / s % 2) 1 ≡ has_bit byte s
unfolding has_bit
bit_some byte zero n = absurd (n refl)
bit_some byte (suc s) n = refl

pub no_bit : (s : ℕ) → has_bit 0 s ≡ false
unfolding has_bit
no_bit zero = refl
no_bit (suc s) = rw (zero-div (suc s)) refl

pub bit_positive : (byte s : ℕ) → has_bit byte s ≡ true → ltb 0 byte ≡ true
bit_positive zero s e = never (has_bit 0 s) e (no_bit s)
bit_positive (suc b) s e = lt-ltb 0 (suc b) (omega arith)

-- ---- one test after the other
module _ (text : List ℕ) (r s : Row) where
  pub key_other : (get_or r 4 0 ≡ get_or s 4 0 → ⊥) → eqb (get_or r 4 0) (get_or s 4 0) ≡ keys_tested text r s
  unfolding keys_tested
  key_other n = rw (ne_eqb (get_or r 4 0) (get_or s 4 0) n) refl

  pub key_same : (x y : Key) (t : Bool) → get_or r 4 0 ≡ get_or s 4 0 → x ≡ key_in r → y ≡ key_in s → t ≡ keys_unmatched text x text y → t ≡ keys_tested text r s
  unfolding keys_tested
  key_same x y t e ex ey et = rw (eq-eqb (get_or r 4 0) (get_or s 4 0) e, ← ex, ← ey) et

  pub other_fate : (get_or r 0 0 ≡ get_or s 0 0 → ⊥) → false ≡ rows_tested text r s
  unfolding rows_tested
  other_fate n = rw (ne_eqb (get_or r 0 0) (get_or s 0 0) n) refl

  pub same_contact : get_or r 0 0 ≡ get_or s 0 0 → get_or s 0 0 ≡ 5 → eqb (get_or r 22 0) (get_or s 22 0) ≡ rows_tested text r s
  unfolding rows_tested
  same_contact e h = rw (eq-eqb (get_or r 0 0) (get_or s 0 0) e, eq-eqb (get_or s 0 0) 5 h) refl

  pub same_key : (t : Bool) → get_or r 0 0 ≡ get_or s 0 0 → (get_or s 0 0 ≡ 5 → ⊥) → t ≡ keys_tested text r s → t ≡ rows_tested text r s
  unfolding rows_tested
  same_key t e n et = rw (eq-eqb (get_or r 0 0) (get_or s 0 0) e, ne_eqb (get_or s 0 0) 5 n) et

  module _ (v : ℕ) (t : Bool) (et : t ≡ has_bit (get_or r 24 0) v) where
    pub not_served : t ≡ false → t ≡ both (rows_tested text r s) (has_bit (get_or r 24 0) v)
    not_served n = n ∙ rw (← et, n) (sym (both_no (rows_tested text r s)))

    pub served : (u : Bool) → t ≡ true → u ≡ rows_tested text r s → u ≡ both (rows_tested text r s) (has_bit (get_or r 24 0) v)
    served u n eu = rw (← et, n) (eu ∙ sym (both_yes (rows_tested text r s)))

pub code_contact : (r : Row) (p : ℕ) → get_or r 0 0 ≡ 5 → p ≡ get_or r 22 0 → p ≡ code_in r
unfolding code_in
code_contact r p h ep = rw (eq-eqb (get_or r 0 0) 5 h) ep

pub code_key : (r : Row) (p : ℕ) → (get_or r 0 0 ≡ 5 → ⊥) → p ≡ get_or r 4 0 → p ≡ code_in r
unfolding code_in
code_key r p h ep = rw (ne_eqb (get_or r 0 0) 5 h) ep

-- ---- records that are alike have one code
abbrev pub Coded : List ℕ → Row → Type 0
Coded text r = get_or r 4 0 ≡ file_code (bytes text (call_in r)) (bytes text (mode_in r)) (bytes text (band_in r))

module _ (text : List ℕ) (r s : Row) (cr : Coded text r) (cs : Coded text s) where
  pub key_codes : keys_unmatched text (key_in r) text (key_in s) ≡ true → get_or r 4 0 ≡ get_or s 4 0
  unfolding keys_unmatched unmatched file_code code_of
  key_codes e =
      let call = same_raised_true (trimmed (bytes text (call_in r))) (trimmed (bytes text (call_in s))) (both_left (same_raised (trimmed (bytes text (call_in r))) (trimmed (bytes text (call_in s)))) _ e) in
      let rest = both_right (same_raised (trimmed (bytes text (call_in r))) (trimmed (bytes text (call_in s)))) _ e in
      let band = same_true (bytes text (band_in r)) (bytes text (band_in s)) (both_left (same (bytes text (band_in r)) (bytes text (band_in s))) _ rest) in
      let mode = same_true (bytes text (mode_in r)) (bytes text (mode_in s)) (both_right (same (bytes text (band_in r)) (bytes text (band_in s))) _ rest) in
      cr ∙ rw (call, mode, band) (sym cs)

  pub tested_alike : rows_tested text r s ≡ rows_alike text r s
  unfolding rows_tested rows_alike keys_tested
  tested_alike =
      let k : both (eqb (get_or r 4 0) (get_or s 4 0)) (keys_unmatched text (key_in r) text (key_in s)) ≡ keys_unmatched text (key_in r) text (key_in s) =
      cases (keys_unmatched text (key_in r) text (key_in s))
      (λ u. rw (eq-eqb (get_or r 4 0) (get_or s 4 0) (key_codes u)) refl)
      (λ u. cases (eqb (get_or r 4 0) (get_or s 4 0)) (λ v. rw v refl) (λ v. rw (u, v) refl)) in
      rw k refl

  pub alike_codes : rows_alike text r s ≡ true → code_in r ≡ code_in s
  unfolding rows_alike code_in
  alike_codes e =
      let f : get_or r 0 0 ≡ get_or s 0 0 = eqb-true _ _ (both_left (eqb (get_or r 0 0) (get_or s 0 0)) _ e) in
      let m = both_right (eqb (get_or r 0 0) (get_or s 0 0)) _ e in
      rw f (cases (eqb (get_or s 0 0) 5) (λ t. rw t (eqb-true _ _ (rw t at m))) (λ t. rw t (key_codes (rw t at m))))
