-- A length in decimal has no white space at its ends, no colon, no ">", and is ASCII; so a tag's length reads back. Assumes nothing.
use Rattle.std.specs.Prelude.{Some}
use mathlib.Core.Path.{◌≡◌, refl}
use mathlib.Core.Bool.{false}
use mathlib.Core.List.{List, [], ◌∷◌, reverse, reverse_aux}
use Prim.Native.Nat.{ℕ, ◌^◌, ◌≤◌, ◌<◌}
use native.Mathlib.Nat.{sub-zero}
use native.Mathlib.Omega.{arith}
use lib.ListN.{length}
use lib.Seq.{take-length}
use borrow.Author.Tests.{ne_eqb, le-leb, lt-leb}
use Rattle.text.specs.Walk.{lead}
use Rattle.text.specs.Space.{space1, space2, space3, space80, space_len, space_back, width, trim_start, trim_end, trimmed}
use Rattle.text.proofs.Walks.{stops}
use Rattle.text.proofs.AppendLaws.{Ascii}
use Rattle.text.proofs.BoolLaws.{both_no}
use Rattle.decimal.specs.Decimal.{unsigned_of}
use Rattle.decimal.specs.Digits.{decimal}
use Rattle.decimal.proofs.ReadBack.{Digits, are_digits, digits_ascii, read_back_lem}
use Rattle.tags.specs.Tags.{gt, colon}
use Rattle.adif.specs.Grammar.{Without}

module _ (x : ℕ) (l : 0x30 ≤ x) (h : x ≤ 0x39) where
  no1 : space1 x ≡ false
  unfolding space1
  no1 = simp (le-leb 9 x (omega arith), lt-leb x 13 (omega arith), ne_eqb x 0x20 (λ e. omega arith))

  no2 : (y : ℕ) → space2 x y ≡ false
  unfolding space2
  no2 y = simp (ne_eqb x 0xC2 (λ e. omega arith))

  no3 : (y z : ℕ) → space3 x y z ≡ false
  unfolding space3
  no3 y z = simp (ne_eqb x 0xE1 (λ e. omega arith), ne_eqb x 0xE2 (λ e. omega arith), ne_eqb x 0xE3 (λ e. omega arith))

  back2 : (y : ℕ) → space2 y x ≡ false
  unfolding space2
  back2 y = simp (ne_eqb x 0x85 (λ e. omega arith), ne_eqb x 0xA0 (λ e. omega arith), both_no)

  back3 : (y z : ℕ) → space3 z y x ≡ false
  unfolding space3 space80
  back3 y z =
      simp
      (lt-leb 0x80 x (omega arith), lt-leb 0xA8 x (omega arith), ne_eqb x 0xAF (λ e. omega arith), ne_eqb x 0x80 (λ e. omega arith), ne_eqb x 0x9F (λ e. omega arith), both_no)

no_front : (xs : List ℕ) → Digits xs → lead space_len xs ≡ 0
unfolding space_len width lead
no_front [] d = refl
no_front (x ∷ xs) d =
    stops space_len (x ∷ xs) (simp (no1 x d.0.0 d.0.1, no2 x d.0.0 d.0.1, no3 x d.0.0 d.0.1))

no_back : (xs : List ℕ) → Digits xs → lead space_back xs ≡ 0
unfolding space_back width lead
no_back [] d = refl
no_back (x ∷ xs) d =
    stops space_back (x ∷ xs) (simp (no1 x d.0.0 d.0.1, back2 x d.0.0 d.0.1, back3 x d.0.0 d.0.1))

turned : (xs ys : List ℕ) → Digits xs → Digits ys → Digits (reverse_aux xs ys)
turned [] ys p q = q
turned (x ∷ xs) ys p q = turned xs (x ∷ ys) p.1 (p.0, q)

trim_digits : (xs : List ℕ) → Digits xs → trimmed xs ≡ xs
unfolding trimmed trim_start trim_end
trim_digits xs d = simp (no_front xs d, no_back (reverse xs) (turned xs [] d tt), sub-zero (length xs), take-length xs)

digits_without : (b : ℕ) (xs : List ℕ) → 0x39 < b → Digits xs → Without b xs
digits_without b [] h d = tt
digits_without b (x ∷ xs) h d = ((λ e. omega (arith, d.0.1)), digits_without b xs h d.1)

module _ (n : ℕ) where
  pub decimal_digits : Digits (decimal n)
  unfolding decimal
  decimal_digits = are_digits 20 n

  pub decimal_read : n < 2 ^ 64 → unsigned_of (trimmed (decimal n)) ≡ Some n
  decimal_read h = rw (trim_digits (decimal n) decimal_digits) (read_back_lem n h)

  pub decimal_colon : Without colon (decimal n)
  decimal_colon = digits_without colon (decimal n) (omega arith) decimal_digits

  pub decimal_gt : Without gt (decimal n)
  decimal_gt = digits_without gt (decimal n) (omega arith) decimal_digits

  pub decimal_ascii : Ascii (decimal n)
  decimal_ascii = digits_ascii (decimal n) decimal_digits
