-- Words and decimals, told apart by the first byte after the sign. Assumes nothing.
use mathlib.Core.Path.{◌≡◌, refl, sym, ap, ◌∙◌}
use mathlib.Core.Bool.{Bool, true, false}
use mathlib.Core.List.{List, [], ◌∷◌}
use Prim.Native.Nat.{ℕ, ◌-◌, ◌≤◌, ◌<◌}
use native.Mathlib.Nat.{add-zero}
use native.Mathlib.Omega.{arith}
use lib.ListN.{length, take, drop, get_or}
use lib.Seq.{get_or-drop}
use lib.Dec.{eqb, leb, lit<}
use lib.Ieee.{inf, nan, mul, lt}
use borrow.Author.Tests.{lt-leb, ne_eqb}
use Rattle.text.specs.Pick.{pick, either}
use Rattle.text.proofs.SpaceLaws.{rest}
use Rattle.text.proofs.BoolLaws.{both_no}
use Rattle.letters.specs.Capitals.{raised}
use Rattle.letters.specs.Same.{same_raised}
use Rattle.hertz.specs.Whole.{to_hz, below_zero, rounded}
use Rattle.mhz.specs.Digits.{is_digit}
use Rattle.mhz.specs.Number.{none, not_a_number, infinity, negative, unsigned, pointed, whole_part, fraction_part, decimal_of, is_infinity, is_nan, unsigned_number, number_in}
use Rattle.mhz.specs.Reading.{hertz_of, number_hertz}
use Rattle.mhz.specs.Steps.{word_hertz}
use Rattle.mhz.proofs.PartLaws.{sign_fits}
use Rattle.mhz.specs.declared.Hz.{Hz}
use Rattle.mhz.specs.declared.Hz.TheVariants.{Absent, Is}

-- ---- what the words say
module _ (s x y : Bool) (xs : List ℕ) (ex : x ≡ is_infinity xs) where
  module _ (t : x ≡ true) where
    pub minus_infinity : s ≡ true → Absent ≡ word_hertz s xs
    unfolding word_hertz hertz_of below_zero lt
    minus_infinity e = rw (← ex, t, e)

    pub plus_infinity : s ≡ false → Is 18446744073709551615 ≡ word_hertz s xs
    unfolding word_hertz hertz_of below_zero lt to_hz mul rounded
    plus_infinity e = rw (← ex, t, e)

  module _ (t : x ≡ false) (ey : y ≡ same_raised xs (0x4E ∷ 0x41 ∷ 0x4E ∷ [])) where
    is_nan_lem : y ≡ is_nan xs
    unfolding is_nan
    is_nan_lem = ey

    pub word_nan : y ≡ true → Is 0 ≡ word_hertz s xs
    unfolding word_hertz hertz_of below_zero lt to_hz mul rounded
    word_nan e = rw (← ex, t, ← is_nan_lem, e)

    pub no_word : y ≡ false → Absent ≡ word_hertz s xs
    unfolding word_hertz
    no_word e = rw (← ex, t, ← is_nan_lem, e)

-- ---- no decimal begins above the digits
no_digit : (b : ℕ) → 0x39 < b → is_digit b ≡ false
no_digit b h = rw (lt-leb b 0x39 h) (both_no (leb 0x30 b))

above_digits : (s : Bool) (xs : List ℕ) → 0x39 < get_or xs 0 0 → decimal_of s xs ≡ none
unfolding decimal_of whole_part fraction_part pointed
above_digits s [] h = absurd (omega arith)
above_digits s (b ∷ bs) h = rw (no_digit b h) (rw (ne_eqb b 0x2E (λ z. omega arith)))

-- ---- no word begins at or below the digits
module _ (b : ℕ) (h : b ≤ 0x39) where
  as_it_is : raised b ≡ b
  unfolding raised
  as_it_is = rw (lt-leb 0x61 b (omega arith))

  not_word : (c : ℕ) (bs cs : List ℕ) → 0x39 < raised c → same_raised (b ∷ bs) (c ∷ cs) ≡ false
  unfolding same_raised
  not_word c bs cs g = rw as_it_is (rw (ne_eqb b (raised c) (λ z. omega arith)))

letter_i : 0x39 < raised 0x49
unfolding raised
letter_i = lit< tt

letter_n : 0x39 < raised 0x4E
unfolding raised
letter_n = lit< tt

empty : (s : Bool) → unsigned_number s [] ≡ decimal_of s []
unfolding unsigned_number is_infinity is_nan same_raised
empty s = refl

pub below_words : (s : Bool) (xs : List ℕ) → get_or xs 0 0 ≤ 0x39 → unsigned_number s xs ≡ decimal_of s xs
unfolding unsigned_number is_infinity is_nan
below_words s [] h = empty s
below_words s (b ∷ bs) h =
    rw (not_word b h 0x49 bs (0x4E ∷ 0x46 ∷ []) letter_i)
    (rw (not_word b h 0x49 bs (0x4E ∷ 0x46 ∷ 0x49 ∷ 0x4E ∷ 0x49 ∷ 0x54 ∷ 0x59 ∷ []) letter_i)
    (rw (not_word b h 0x4E bs (0x41 ∷ 0x4E ∷ []) letter_n)))

-- ---- the whole text, by the first byte after its sign
module _ (s : List ℕ) (first start b : ℕ) (t : Bool) (r : Hz)
    (ef : first ≡ get_or s 0 0) (et : t ≡ either (eqb first 0x2B) (eqb first 0x2D)) (es : start ≡ pick t 1 0) (eb : b ≡ get_or s start 0) where
  is_unsigned : unsigned s ≡ drop start s
  unfolding unsigned
  is_unsigned = simp (← ef, ← et, ← es)

  is_number : number_in s ≡ unsigned_number (eqb first 0x2D) (drop start s)
  unfolding number_in negative
  is_number = rw is_unsigned (rw (← ef))

  is_first : get_or (drop start s) 0 0 ≡ b
  is_first = simp (get_or-drop, add-zero) (sym eb)

  pub text_word : 0x39 < b → r ≡ word_hertz (eqb first 0x2D) (take (length s - start) (drop start s)) → r ≡ number_hertz (number_in s)
  unfolding word_hertz unsigned_number
  text_word h e = e ∙ rw (rest, is_number, above_digits (eqb first 0x2D) (drop start s) (rw is_first h)) (by_cases (is_infinity (drop start s)) (is_nan (drop start s)) (eqb first 0x2D))
    where
      by_cases : (i n m : Bool) → pick i (hertz_of (inf m)) (pick n (hertz_of nan) Absent) ≡ number_hertz (pick i (infinity m) (pick n not_a_number none))
      by_cases true n m = refl
      by_cases false true m = refl
      by_cases false false m = refl

  pub text_decimal : b ≤ 0x39 → r ≡ number_hertz (decimal_of (eqb first 0x2D) (drop start s)) → r ≡ number_hertz (number_in s)
  text_decimal h e = e ∙ ap number_hertz (sym (is_number ∙ below_words (eqb first 0x2D) (drop start s) (rw is_first h)))

pub start_fits : (s : List ℕ) (b k : ℕ) (t : Bool) → b ≡ get_or s 0 0 → t ≡ either (eqb b 0x2B) (eqb b 0x2D) → k ≡ pick t 1 0 → k ≤ length s
start_fits s b k t e g f = omega (arith, sign_fits s 0 b k (omega arith) e t g f)
