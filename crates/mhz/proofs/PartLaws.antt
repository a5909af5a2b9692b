-- The parts of a number in a text, by their places. Assumes nothing.
use Rattle.std.specs.Prelude.{Option, Some, None}
use mathlib.Core.Path.{◌≡◌, refl, sym, ap, ◌∙◌}
use mathlib.Core.Bool.{Bool, true, false, true≢false}
use mathlib.Core.Logic.{inl, inr}
use mathlib.Core.List.{List, [], ◌∷◌, ◌++◌}
use Prim.Native.Nat.{ℕ, ◌+◌, ◌-◌, ◌≤◌}
use native.Mathlib.Nat.{add-zero, le_of_eq, eq-or-lt_of_le}
use native.Mathlib.Numerals.{add-one}
use native.Mathlib.Omega.{arith}
use borrow.Author.Tests.{eq-eqb, ne_eqb}
use lib.ListN.{length, drop, get_or, length-drop, get_or-eq_default}
use lib.Seq.{drop-drop, get_or-drop, drop-cons}
use lib.Dec.{eqb}
use Rattle.text.specs.Pick.{pick, either}
use Rattle.mhz.specs.Digits.{is_digit, digits_of, after_digits}
use Rattle.mhz.specs.Number.{all_digits, pointed, whole_part, fraction_part, after_decimal, unsigned, negative}
use Rattle.mhz.specs.Steps.{grown, held, power_held, exponent_held}
use Rattle.mhz.specs.declared.number.Power.{Power}

-- ---- a step over a byte that is not 0 ends within the text
step_fits : (s : List ℕ) (p k : ℕ) (t : Bool) → p ≤ length s → (t ≡ true → get_or s p 0 ≡ 0 → ⊥) → k ≡ pick t 1 0 → p + k ≤ length s
step_fits s p k false l n e = omega arith
step_fits s p k true l n e = elim (eq-or-lt_of_le l) [
  | inl h ↦ absurd (n refl (get_or-eq_default s 0 (le_of_eq (sym h))))
  | inr h ↦ omega arith
]

is_not_lem : (b : ℕ) (f : ℕ → Bool) → f 0 ≡ false → f b ≡ true → b ≡ 0 → ⊥
is_not_lem b f z t e = true≢false (sym t ∙ ap f e ∙ z)

module _ (s : List ℕ) (p b k : ℕ) (l : p ≤ length s) (e : b ≡ get_or s p 0) where
  pub point_fits : k ≡ pick (eqb b 0x2E) 1 0 → p + k ≤ length s
  point_fits f = step_fits s p k (eqb b 0x2E) l (λ t z. is_not_lem b (λ x. eqb x 0x2E) refl t (e ∙ z)) f

  pub sign_fits : (t : Bool) → t ≡ either (eqb b 0x2B) (eqb b 0x2D) → k ≡ pick t 1 0 → p + k ≤ length s
  sign_fits t g f = step_fits s p k t l (λ u z. is_not_lem b (λ x. either (eqb x 0x2B) (eqb x 0x2D)) refl (sym g ∙ u) (e ∙ z)) f

-- ---- where digits end none begin
digits_end : (xs : List ℕ) → digits_of (after_digits xs) ≡ []
digits_end [] = refl
digits_end (b ∷ bs) = go (digits_end bs) (is_digit b) refl
  where
    go : digits_of (after_digits bs) ≡ [] → (t : Bool) → is_digit b ≡ t → digits_of (pick (is_digit b) (after_digits bs) (b ∷ bs)) ≡ []
    go i true e = rw e i
    go i false e = rw e (rw e)

after_end : (xs : List ℕ) → after_digits (after_digits xs) ≡ after_digits xs
after_end [] = refl
after_end (b ∷ bs) = go (after_end bs) (is_digit b) refl
  where
    go : after_digits (after_digits bs) ≡ after_digits bs → (t : Bool) → is_digit b ≡ t → after_digits (pick (is_digit b) (after_digits bs) (b ∷ bs)) ≡ pick (is_digit b) (after_digits bs) (b ∷ bs)
    go i true e = rw e i
    go i false e = rw e (rw e)

-- ---- a decimal up to its exponent
module _ (xs : List ℕ) where
  fraction_is : (t : Bool) → t ≡ pointed (after_digits xs) → digits_of (drop (pick t 1 0) (after_digits xs)) ≡ fraction_part xs
  unfolding fraction_part
  fraction_is true e = rw (sym e)
  fraction_is false e = rw (sym e) (digits_end xs)

  after_is : (t : Bool) → t ≡ pointed (after_digits xs) → after_digits (drop (pick t 1 0) (after_digits xs)) ≡ after_decimal xs
  unfolding after_decimal
  after_is true e = rw (sym e)
  after_is false e = rw (sym e) (after_end xs)

pub held_append : (most n : ℕ) (xs ys : List ℕ) → held most n (xs ++ ys) ≡ held most (held most n xs) ys
held_append most n [] ys = refl
held_append most n (x ∷ xs) ys = held_append most (grown most n x) xs ys

module _ (s : List ℕ) (start p b k e : ℕ) (q : drop p s ≡ after_digits (drop start s)) (g : b ≡ get_or s p 0) (f : k ≡ pick (eqb b 0x2E) 1 0) where
  is_pointed : eqb b 0x2E ≡ pointed (after_digits (drop start s))
  unfolding pointed
  is_pointed = rw (← q) (simp (get_or-drop, add-zero, g))

  rest : drop (p + k) s ≡ drop (pick (eqb b 0x2E) 1 0) (after_digits (drop start s))
  rest = sym (drop-drop k p s) ∙ ap (drop k) q ∙ ap (λ (j : ℕ). drop j (after_digits (drop start s))) f

  rest_digits : digits_of (drop (p + k) s) ≡ fraction_part (drop start s)
  rest_digits = ap digits_of rest ∙ fraction_is (drop start s) (eqb b 0x2E) is_pointed

  pub mantissa_after : drop e s ≡ after_digits (drop (p + k) s) → drop e s ≡ after_decimal (drop start s)
  mantissa_after a = a ∙ ap after_digits rest ∙ after_is (drop start s) (eqb b 0x2E) is_pointed

  pub mantissa_held : (most w h : ℕ) → w ≡ held most 0 (digits_of (drop start s)) → h ≡ held most w (digits_of (drop (p + k) s))
      → h ≡ held most 0 (whole_part (drop start s) ++ fraction_part (drop start s))
  unfolding whole_part
  mantissa_held most w h x y =
      y ∙ ap (λ (n : ℕ). held most n (digits_of (drop (p + k) s))) x ∙ ap (held most (held most 0 (digits_of (drop start s)))) rest_digits
      ∙ sym (held_append most 0 (digits_of (drop start s)) (fraction_part (drop start s)))

  module _ (y : e ≡ p + k + length (digits_of (drop (p + k) s))) where
    pub mantissa_fraction : e - (p + k) ≡ length (fraction_part (drop start s))
    mantissa_fraction = omega (arith, ap length rest_digits)

    pub mantissa_count : p ≡ start + length (digits_of (drop start s)) → p - start + (e - (p + k)) ≡ length (whole_part (drop start s)) + length (fraction_part (drop start s))
    unfolding whole_part
    mantissa_count x = omega (arith, mantissa_fraction)

-- ---- the exponent
module _ (s : List ℕ) (from at h : ℕ) (minus : Bool) (p : at ≡ from + length (digits_of (drop from s))) (q : drop at s ≡ after_digits (drop from s)) where
  pub power_none : at ≡ from → None ≡ power_held minus (drop from s)
  unfolding power_held all_digits
  power_none z = rw (eq-eqb (length (digits_of (drop from s))) 0 (omega arith))

  module _ (some : at ≡ from → ⊥) where
    is_some : eqb (length (digits_of (drop from s))) 0 ≡ false
    is_some = ne_eqb (length (digits_of (drop from s))) 0 (λ z. some (omega arith))

    pub power_goes_on : (at ≡ length s → ⊥) → at ≤ length s → None ≡ power_held minus (drop from s)
    unfolding power_held all_digits
    power_goes_on n l =
        rw (is_some, ne_eqb (length (after_digits (drop from s))) 0 (λ z. n (omega (arith, length-drop at s, ap length q))))

    pub power_is : at ≡ length s → h ≡ held 65535 0 (digits_of (drop from s)) → Some (record { minus = minus; size = h }) ≡ power_held minus (drop from s)
    unfolding power_held all_digits
    power_is e g =
        rw (is_some, eq-eqb (length (after_digits (drop from s))) 0 (omega (arith, length-drop at s, ap length q))) (ap (λ n. Some (record { minus = minus; size = n })) g)

module _ (s : List ℕ) (at : ℕ) (x : Bool) (l : at ≤ length s) (n : at ≡ length s → ⊥) (e : x ≡ either (eqb (get_or s at 0) 0x65) (eqb (get_or s at 0) 0x45)) where
  opened : drop at s ≡ get_or s at 0 ∷ drop (at + 1) s
  opened = rw add-one (drop-cons s at 0 (omega arith))

  pub exponent_is : (sign k : ℕ) (u : Bool) (r : Option Power) → x ≡ true → sign ≡ get_or s (at + 1) 0 → u ≡ either (eqb sign 0x2B) (eqb sign 0x2D) → k ≡ pick u 1 0
      → r ≡ power_held (eqb sign 0x2D) (drop (at + 1 + k) s) → r ≡ exponent_held (drop at s)
  unfolding negative unsigned
  exponent_is sign k u r t g f j i =
      rw (opened, sym e ∙ t) (simp (get_or-drop, add-zero, ← g, ← f, ← j, drop-drop) i)
