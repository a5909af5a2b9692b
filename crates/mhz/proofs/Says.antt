-- A text that the grammar makes says the number that the grammar gives it. Assumes nothing.
use mathlib.Core.Path.{◌≡◌, refl, sym, ap, ◌∙◌}
use mathlib.Core.Bool.{Bool, true, false}
use mathlib.Core.List.{List, [], ◌∷◌, ◌++◌, append-nil, append_assoc}
use Prim.Native.Nat.{ℕ, ◌+◌, ◌≤◌, ◌<◌}
use native.Mathlib.Omega.{arith}
use lib.ListN.{length, get_or}
use lib.Dec.{leb, lit≤}
use borrow.Author.Tests.{leb-true, ne_eqb}
use Rattle.text.specs.Pick.{pick}
use Rattle.text.proofs.BoolLaws.{both_left, both_right}
use Rattle.decimal.specs.Decimal.{all_digits}
use Rattle.mhz.specs.Digits.{is_digit, digits_of, after_digits, number_of}
use Rattle.mhz.specs.Number.{Number, decimal, malformed, power, negative, unsigned, pointed, whole_part, fraction_part, after_decimal, exponent_of, decimal_of, number_in}
use Rattle.mhz.specs.Number.{all_digits as onlyDigits}
use Rattle.mhz.specs.Grammar.{Sign, no_sign, plus, minus, Mantissa, no_point, point, Exponent, no_exponent, small_e, capital_e, Decimal, of}
use Rattle.mhz.proofs.TextLaws.{below_words}

-- ---- digits in front of a text
digits_front : (ds ys : List ℕ) → all_digits ds ≡ true → digits_of (ds ++ ys) ≡ ds ++ digits_of ys
digits_front [] ys p = refl
digits_front (d ∷ ds) ys p = rw (both_left (is_digit d) (all_digits ds) p) (ap (λ (z : List ℕ). d ∷ z) (digits_front ds ys (both_right (is_digit d) (all_digits ds) p)))

after_front : (ds ys : List ℕ) → all_digits ds ≡ true → after_digits (ds ++ ys) ≡ after_digits ys
after_front [] ys p = refl
after_front (d ∷ ds) ys p = rw (both_left (is_digit d) (all_digits ds) p) (after_front ds ys (both_right (is_digit d) (all_digits ds) p))

digits_only : (ds : List ℕ) → all_digits ds ≡ true → digits_of ds ≡ ds
digits_only ds p = ap digits_of (sym (append-nil ds)) ∙ digits_front ds [] p ∙ append-nil ds

after_only : (ds : List ℕ) → all_digits ds ≡ true → after_digits ds ≡ []
after_only ds p = ap after_digits (sym (append-nil ds)) ∙ after_front ds [] p

digit_range : (d : ℕ) (ds : List ℕ) → all_digits (d ∷ ds) ≡ true → (0x2E ≤ d) × (d ≤ 0x39)
digit_range d ds p =
    let q : is_digit d ≡ true = both_left (is_digit d) (all_digits ds) p in
    (omega (arith, leb-true 0x30 d (both_left (leb 0x30 d) (leb d 0x39) q)), leb-true d 0x39 (both_right (leb 0x30 d) (leb d 0x39) q))

-- ---- a sign in front of a text that begins with none
module _ (xs : List ℕ) (lo : 0x2E ≤ get_or xs 0 0) where
  unsigned_same : unsigned xs ≡ xs
  unfolding unsigned
  unsigned_same = rw (ne_eqb (get_or xs 0 0) 0x2B (λ e. omega arith), ne_eqb (get_or xs 0 0) 0x2D (λ e. omega arith))

  sign_negative : {s : List ℕ} {n : Bool} → Sign s n → negative (s ++ xs) ≡ n
  unfolding negative
  sign_negative no_sign = ne_eqb (get_or xs 0 0) 0x2D (λ e. omega arith)
  sign_negative plus = refl
  sign_negative minus = refl

  sign_unsigned : {s : List ℕ} {n : Bool} → Sign s n → unsigned (s ++ xs) ≡ xs
  unfolding unsigned
  sign_unsigned no_sign = unsigned_same
  sign_unsigned plus = refl
  sign_unsigned minus = refl

point_points : (xs : List ℕ) → pointed (0x2E ∷ xs) ≡ true
unfolding pointed
point_points xs = refl

-- ---- the exponent
first_of : (ds : List ℕ) → all_digits ds ≡ true → 0 < length ds → 0x2E ≤ get_or ds 0 0
first_of [] p h = absurd (omega arith)
first_of (d ∷ ds) p h = (digit_range d ds p).0

only : (ds : List ℕ) → all_digits ds ≡ true → 0 < length ds → onlyDigits ds ≡ true
unfolding onlyDigits
only ds p h = rw (digits_only ds p, after_only ds p) (rw (ne_eqb (length ds) 0 (λ z. omega arith)))

module _ (s ds : List ℕ) {n : Bool} (g : Sign s n) (p : all_digits ds ≡ true) (h : 0 < length ds) where
  power_says : pick (onlyDigits (unsigned (s ++ ds))) (power (negative (s ++ ds)) (number_of (digits_of (unsigned (s ++ ds))))) malformed ≡ power n (number_of ds)
  power_says = rw (sign_unsigned ds (first_of ds p h) g, sign_negative ds (first_of ds p h) g) (rw (only ds p h, digits_only ds p))

exponent_says : {e : List ℕ} {below : Bool} {n : ℕ} → Exponent e below n → exponent_of e ≡ power below n
exponent_says no_exponent = refl
exponent_says (small_e s ds g p h) = power_says s ds g p h
exponent_says (capital_e s ds g p h) = power_says s ds g p h

exponent_starts : {e : List ℕ} {below : Bool} {n : ℕ} → Exponent e below n → (digits_of e ≡ []) × (after_digits e ≡ e) × (pointed e ≡ false)
unfolding pointed
exponent_starts no_exponent = (refl, refl, refl)
exponent_starts (small_e s ds g p h) = (refl, refl, refl)
exponent_starts (capital_e s ds g p h) = (refl, refl, refl)

-- ---- the decimal
module _ {e : List ℕ} {below : Bool} {n : ℕ} (x : Exponent e below n) where
  no_point_after : (w : List ℕ) → all_digits w ≡ true → after_digits (w ++ e) ≡ e
  no_point_after w p = after_front w e p ∙ (exponent_starts x).1

  point_after : (w f : List ℕ) → all_digits w ≡ true → after_digits ((w ++ (0x2E ∷ f)) ++ e) ≡ 0x2E ∷ (f ++ e)
  point_after w f p = ap after_digits (append_assoc w (0x2E ∷ f) e) ∙ after_front w (0x2E ∷ (f ++ e)) p

  whole_says : {m w f : List ℕ} → Mantissa m w f → whole_part (m ++ e) ≡ w
  unfolding whole_part
  whole_says (no_point w p) = digits_front w e p ∙ ap (λ (z : List ℕ). w ++ z) (exponent_starts x).0 ∙ append-nil w
  whole_says (point w f p q) = ap digits_of (append_assoc w (0x2E ∷ f) e) ∙ digits_front w (0x2E ∷ (f ++ e)) p ∙ append-nil w

  fraction_says : {m w f : List ℕ} → Mantissa m w f → fraction_part (m ++ e) ≡ f
  unfolding fraction_part
  fraction_says (no_point w p) = rw (no_point_after w p) (rw (exponent_starts x).2)
  fraction_says (point w f p q) = rw (point_after w f p) (rw (point_points (f ++ e)) (digits_front f e q ∙ ap (λ (z : List ℕ). f ++ z) (exponent_starts x).0 ∙ append-nil f))

  after_says : {m w f : List ℕ} → Mantissa m w f → after_decimal (m ++ e) ≡ e
  unfolding after_decimal
  after_says (no_point w p) = rw (no_point_after w p) (rw (exponent_starts x).2)
  after_says (point w f p q) = rw (point_after w f p) (rw (point_points (f ++ e)) (after_front f e q ∙ (exponent_starts x).1))

  decimal_says : {m w f : List ℕ} (s : Bool) → Mantissa m w f → 0 < length w + length f → decimal_of s (m ++ e) ≡ decimal s (number_of (w ++ f)) (length f) below n
  unfolding decimal_of
  decimal_says {m} {w} {f} s g h =
      rw (whole_says g, fraction_says g, after_says g) (rw (exponent_says x, ne_eqb (length w + length f) 0 (λ z. omega arith)))

-- the first byte is a digit or the point
first_byte : {m w f : List ℕ} (e : List ℕ) → Mantissa m w f → 0 < length w + length f → (0x2E ≤ get_or (m ++ e) 0 0) × (get_or (m ++ e) 0 0 ≤ 0x39)
first_byte e (no_point [] p) h = absurd (omega arith)
first_byte e (no_point (d ∷ ds) p) h = digit_range d ds p
first_byte e (point [] f p q) h = (lit≤ tt, lit≤ tt)
first_byte e (point (d ∷ ds) f p q) h = digit_range d ds p

pub says : {text : List ℕ} {n : Number} → Decimal text n → number_in text ≡ n
unfolding number_in
says (of s m e w f {negative} g t h x) =
    let b = first_byte e t h in
    rw (sign_negative (m ++ e) b.0 g, sign_unsigned (m ++ e) b.0 g) (below_words negative (m ++ e) b.1 ∙ decimal_says x negative t h)
