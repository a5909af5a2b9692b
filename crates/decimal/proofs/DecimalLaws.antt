-- Laws of the digits of `specs/Decimal.antt`: what a loop over them asks. Assumes nothing.
use Rattle.std.specs.Prelude.{Option, Some, None}
use mathlib.Core.Path.{◌≡◌, sym, ap, ◌∙◌}
use Prim.Native.Nat.{ℕ, ◌+◌, ◌-◌, ◌*◌, ◌^◌, ◌≤◌, ◌<◌}
use native.Mathlib.Nat.{le_refl, le_trans}
use native.Mathlib.Numerals.{add-one}
use native.Mathlib.Omega.{arith}
use mathlib.Core.List.{List, [], ◌∷◌}
use lib.ListN.{length, get_or, drop, drop_of_length-le}
use lib.Seq.{drop-cons}
use borrow.Author.Tests.{le-leb, lt-leb, lt-ltb, le-ltb, eq-eqb, ne_eqb}
use Rattle.text.proofs.BoolLaws.{both_no}
use Rattle.decimal.specs.Decimal.{number, digits_after, digits_of}

pub grow : (n : ℕ) (ds : List ℕ) → n ≤ number n ds
grow n [] = le_refl n
grow n (d ∷ ds) = le_trans (omega arith) (grow (n * 10 + (d - 0x30)) ds)

-- one digit
module _ (n d : ℕ) (ds : List ℕ) where
  low_digit : d < 0x30 → digits_after n (d ∷ ds) ≡ None
  unfolding digits_after
  low_digit h = simp (lt-leb 0x30 d h)

  high_digit : 0x39 < d → digits_after n (d ∷ ds) ≡ None
  unfolding digits_after
  high_digit h = simp (le-leb 0x30 d (omega arith), lt-leb d 0x39 h)

  digit : 0x30 ≤ d → d ≤ 0x39 → digits_after n (d ∷ ds) ≡ digits_after (n * 10 + (d - 0x30)) ds
  unfolding digits_after
  digit l h = simp (le-leb 0x30 d l, le-leb d 0x39 h)

-- once past 2^64, always
big : (n : ℕ) (ds : List ℕ) → 2 ^ 64 ≤ n → digits_after n ds ≡ None
unfolding digits_after
big n ds h = simp (le-ltb (number n ds) (2 ^ 64) (le_trans h (grow n ds)), both_no)

pub none : (s : List ℕ) → length s ≡ 0 → None ≡ digits_of s
unfolding digits_of
none s e = simp (eq-eqb (length s) 0 e)

pub some : (s : List ℕ) → (length s ≡ 0 → ⊥) → digits_after 0 s ≡ digits_of s
unfolding digits_of
some s n = simp (ne_eqb (length s) 0 n)

-- the digit at i of s
module _ (s : List ℕ) (n i : ℕ) (r : Option ℕ) (q : digits_after n (drop i s) ≡ r) where
  pub low : i < length s → get_or s i 0 < 0x30 → None ≡ r
  low b h = sym (low_digit n _ _ h) ∙ ap (digits_after n) (sym (drop-cons s i 0 b)) ∙ q

  pub high : i < length s → 0x39 < get_or s i 0 → None ≡ r
  high b h = sym (high_digit n _ _ h) ∙ ap (digits_after n) (sym (drop-cons s i 0 b)) ∙ q

  pub more : i < length s → 0x30 ≤ get_or s i 0 → get_or s i 0 ≤ 0x39 → digits_after (n * 10 + (get_or s i 0 - 0x30)) (drop (i + 1) s) ≡ r
  more b l h = rw add-one (sym (digit n _ _ l h) ∙ ap (digits_after n) (sym (drop-cons s i 0 b)) ∙ q)

  pub over : i < length s → 0x30 ≤ get_or s i 0 → get_or s i 0 ≤ 0x39 → 18446744073709551616 ≤ n * 10 + (get_or s i 0 - 0x30) → None ≡ r
  over b l h o = sym (big _ _ (omega arith)) ∙ more b l h

  pub done : length s ≤ i → n < 2 ^ 64 → Some n ≡ r
  unfolding digits_after
  done b f = (simp (drop_of_length-le s b, lt-ltb n (2 ^ 64) f)) ∙ q
