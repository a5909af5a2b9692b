-- A whole number of hertz up to 10 ^ 12, as megahertz in binary64, comes back as that number.
-- Assumes nothing.
use mathlib.Core.Path.{◌≡◌, refl, sym, ap, ◌∙◌, subst}
use mathlib.Core.Logic.{inl, inr}
use mathlib.Core.Bool.{Bool, true, false, true≢false}
use Prim.Native.Nat.{ℕ, ◌+◌, ◌-◌, ◌*◌, ◌/◌, ◌^◌, ◌≤◌, ◌<◌, min}
use native.Mathlib.Nat.{le_trans, le_of_eq, le_antisymm, le_of_suc-le-suc, lt_of_le_of_lt, lt_of_lt_of_le, add-mul, suc-mul, one-mul, mul_comm, mul_left_comm, mul_right_comm, mul-mul-mul_comm, mul-le-mul_right, le_of_mul-le-mul_right, mul-pos, eq-zero-or-pos, zero-lt-suc, le-div_iff_mul-le, div-lt_iff_lt-mul}
use native.Mathlib.Omega.{arith}
use lib.Dec.{T, ltb, ltb→lt, lit≤, lit<}
use lib.Pow.{pow_pos}
use lib.Ieee.{Float, nan, inf, fin, binary64, up, down, round, mul, lt}
use lib.Ieee.Fits.{down_pos}
use lib.Ieee.Exact.{HasValue}
use lib.Ieee.Nearest.{div_same}
use lib.Ieee.Scale.{grid, round_val}
use Rattle.hertz.specs.Value.{parsed}
use Rattle.hertz.specs.Whole.{million, rounded, to_hz, below_zero}
use Rattle.hertz.specs.Theorems.{ThereAndBack}
use Rattle.hertz.proofs.ValueLaws.{mul_value, parsed_six}
use Rattle.hertz.proofs.Near.{Near, near}

-- ---- the numbers: one part in 2 ^ 52 of less than 2 ^ 41 * l is less than one in 2 ^ 11 of l
shrink_hi : (x n l : ℕ) → n ≤ 2199023255552 * l → x * 4503599627370496 ≤ n * 4503599627370496 + n → x * 2048 ≤ n * 2048 + l
shrink_hi x n l b h = omega arith

shrink_lo : (x n l : ℕ) → n ≤ 2199023255552 * l → n * 4503599627370496 ≤ x * 4503599627370496 + n → n * 2048 ≤ x * 2048 + l
shrink_lo x n l b h = omega arith

-- g is the quotient and h the product, in units of 1 / l, and n * l is N
module _ (N l g h : ℕ) (L : 9007199254740992 ≤ l) (lo : l ≤ N) (hi : N ≤ 1000000000000 * l)
    (p : g * 1000000 * 2048 ≤ N * 2048 + l) (q : N * 2048 ≤ g * 1000000 * 2048 + l) where
  quotient_small : g * 1000000 ≤ 2199023255552 * l
  quotient_small = omega arith

  -- the product is in the normal range
  quotient_large : 4503599627370496 ≤ g * 1000000
  quotient_large = omega arith

  module _ (r : h * 2048 ≤ g * 1000000 * 2048 + l) (s : g * 1000000 * 2048 ≤ h * 2048 + l) where
    product_small : h ≤ 2199023255552 * l
    product_small = omega arith

    -- the product is less than half a unit away from n
    from_below : 2 * N ≤ 2 * h + l
    from_below = omega arith

    from_above : 2 * h + l < 2 * N + 2 * l
    from_above = omega arith

-- ---- a common factor goes
cancel_hi : (h m l : ℕ) → 0 < l → h * l * 4503599627370496 ≤ m * l * 4503599627370496 + m * l → h * 4503599627370496 ≤ m * 4503599627370496 + m
cancel_hi h m l L p = le_of_mul-le-mul_right
    (le_trans (le_of_eq (mul_right_comm h 4503599627370496 l)) (le_trans p (le_of_eq (sym (add-mul (m * 4503599627370496) m l ∙ ap (λ (x : ℕ). x + m * l) (mul_right_comm m 4503599627370496 l)))))) L

cancel_lo : (h m l : ℕ) → 0 < l → m * l * 4503599627370496 ≤ h * l * 4503599627370496 + m * l → m * 4503599627370496 ≤ h * 4503599627370496 + m
cancel_lo h m l L p = le_of_mul-le-mul_right
    (le_trans (le_of_eq (mul_right_comm m 4503599627370496 l)) (le_trans p (le_of_eq (sym (add-mul (h * 4503599627370496) m l ∙ ap (λ (x : ℕ). x + m * l) (mul_right_comm h 4503599627370496 l)))))) L

-- ---- what `rounded` is of a fraction
pub rounded_value : (x : Float) (a c : ℕ) → 0 < c → HasValue x false a c → rounded x ≡ min ((2 * a + c) / (2 * c)) (2 ^ 64 - 1)
unfolding rounded
rounded_value nan a c C h = absurd h
rounded_value (inf s) a c C h = absurd h
rounded_value (fin true m e) a c C h = absurd (true≢false h.0)
rounded_value (fin false m e) a c C h =
    ap (λ (z : ℕ). min z (2 ^ 64 - 1))
    (div_same (2 * (m * up e) + down e) (2 * down e) (2 * a + c) (2 * c) (mul-pos (zero-lt-suc 1) (down_pos e)) (mul-pos (zero-lt-suc 1) C) (cross (m * up e) (down e) h.1))
  where
    cross : (p q : ℕ) → p * c ≡ a * q → (2 * p + q) * (2 * c) ≡ (2 * a + c) * (2 * q)
    cross p q h =
        add-mul (2 * p) q (2 * c)
        ∙ ap (λ (z : ℕ). z + q * (2 * c)) (mul-mul-mul_comm 2 p 2 c ∙ ap (λ (z : ℕ). 4 * z) h ∙ mul-mul-mul_comm 2 2 a q)
        ∙ ap (λ (z : ℕ). 2 * a * (2 * q) + z) (mul_left_comm q 2 c ∙ ap (λ (z : ℕ). 2 * z) (mul_comm q c) ∙ mul_left_comm 2 c q)
        ∙ sym (add-mul (2 * a) c (2 * q))

-- ---- h / l to the nearest whole number
whole_part_lem : (n l h : ℕ) → 0 < l → 2 * (n * l) ≤ 2 * h + l → 2 * h + l < 2 * (n * l) + 2 * l → (2 * h + l) / (2 * l) ≡ n
whole_part_lem n l h L a b =
    let e : n * (2 * l) ≡ 2 * (n * l) = mul_left_comm n 2 l in
    let P : 0 < 2 * l = mul-pos (zero-lt-suc 1) L in
    le_antisymm
    (le_of_suc-le-suc ((div-lt_iff_lt-mul P).1 (lt_of_lt_of_le b (le_of_eq (sym (suc-mul n (2 * l) ∙ ap (λ (x : ℕ). x + 2 * l) e))))))
    ((le-div_iff_mul-le P).1 (le_trans (le_of_eq e) a))

capped : (n : ℕ) → n ≤ 1000000000000 → min n 18446744073709551615 ≡ n
capped n h = omega arith

under : (g : ℕ) → g ≤ g * 1000000
under g = omega arith

fewer : (n : ℕ) → n ≤ 1000000000000 → n ≤ 2199023255552
fewer n h = omega arith

-- ---- the quotient, and then the product
module _ (n : ℕ) (pos' : 0 < n) (most : n ≤ 1000000000000) where
  g : ℕ
  g = grid binary64 n 1000000

  h : ℕ
  h = grid binary64 (g * 1000000) (2 ^ 1074)

  first : Near n 1000000 g (2 ^ 1074)
  unfolding g
  first = near n 1000000 (lit< tt) (le_trans (lit≤ tt) (mul-le-mul_right (2 ^ 1074) pos'))

  first_hi : g * 1000000 * 2048 ≤ n * 2 ^ 1074 * 2048 + 2 ^ 1074
  first_hi = shrink_hi (g * 1000000) (n * 2 ^ 1074) (2 ^ 1074) (mul-le-mul_right (2 ^ 1074) (fewer n most)) first.hi

  first_lo : n * 2 ^ 1074 * 2048 ≤ g * 1000000 * 2048 + 2 ^ 1074
  first_lo = shrink_lo (g * 1000000) (n * 2 ^ 1074) (2 ^ 1074) (mul-le-mul_right (2 ^ 1074) (fewer n most)) first.lo

  least : 2 ^ 1074 ≤ n * 2 ^ 1074
  least = le_trans (le_of_eq (sym (one-mul (2 ^ 1074)))) (mul-le-mul_right (2 ^ 1074) pos')

  large : 4503599627370496 ≤ g * 1000000
  large = quotient_large (n * 2 ^ 1074) (2 ^ 1074) g h (lit≤ tt) least (mul-le-mul_right (2 ^ 1074) most) first_hi first_lo

  small : g * 1000000 ≤ 2199023255552 * 2 ^ 1074
  small = quotient_small (n * 2 ^ 1074) (2 ^ 1074) g h (lit≤ tt) least (mul-le-mul_right (2 ^ 1074) most) first_hi first_lo

  second : Near (g * 1000000) (2 ^ 1074) h (2 ^ 1074)
  unfolding h
  second = near (g * 1000000) (2 ^ 1074) (pow_pos 1074) (mul-le-mul_right (2 ^ 1074) large)

  second_hi : h * 2048 ≤ g * 1000000 * 2048 + 2 ^ 1074
  second_hi = shrink_hi h (g * 1000000) (2 ^ 1074) small (cancel_hi h (g * 1000000) (2 ^ 1074) (pow_pos 1074) second.hi)

  second_lo : g * 1000000 * 2048 ≤ h * 2048 + 2 ^ 1074
  second_lo = shrink_lo h (g * 1000000) (2 ^ 1074) small (cancel_lo h (g * 1000000) (2 ^ 1074) (pow_pos 1074) second.lo)

  -- what the two floats are
  quotient_value : HasValue (parsed n 0 6) false g (2 ^ 1074)
  unfolding g
  quotient_value = subst (λ (x : Float). HasValue x false (grid binary64 n 1000000) (2 ^ 1074)) (sym (parsed_six n)) (round_val binary64 n 1000000 (lt_of_le_of_lt (le_trans (under g) small) (lit< tt)))

  product_value : HasValue (mul binary64 (parsed n 0 6) million) false h (2 ^ 1074)
  unfolding h
  product_value =
      subst (λ (x : Float). HasValue x false h (2 ^ 1074))
      (sym (mul_value binary64 (parsed n 0 6) million g (2 ^ 1074) 1000000 1 (pow_pos 1074) (lit< tt) quotient_value (refl, refl)))
      (round_val binary64 (g * 1000000) (2 ^ 1074)
      (lt_of_le_of_lt (product_small (n * 2 ^ 1074) (2 ^ 1074) g h (lit≤ tt) least (mul-le-mul_right (2 ^ 1074) most) first_hi first_lo second_hi second_lo) (lit< tt)))

  back_pos : to_hz (parsed n 0 6) ≡ n
  unfolding to_hz
  back_pos =
      rounded_value (mul binary64 (parsed n 0 6) million) h (2 ^ 1074) (pow_pos 1074) product_value
      ∙ ap (λ (x : ℕ). min x (2 ^ 64 - 1))
      (whole_part_lem n (2 ^ 1074) h (pow_pos 1074)
      (from_below (n * 2 ^ 1074) (2 ^ 1074) g h (lit≤ tt) least (mul-le-mul_right (2 ^ 1074) most) first_hi first_lo second_hi second_lo)
      (from_above (n * 2 ^ 1074) (2 ^ 1074) g h (lit≤ tt) least (mul-le-mul_right (2 ^ 1074) most) first_hi first_lo second_hi second_lo))
      ∙ capped n most

-- ---- zero too
back_zero : to_hz (parsed 0 0 6) ≡ 0
unfolding to_hz parsed mul rounded round
back_zero = refl

pub back : ThereAndBack
back n h = elim (eq-zero-or-pos n) [ inl z ↦ subst (λ (x : ℕ). to_hz (parsed x 0 6) ≡ x) (sym z) back_zero | inr p ↦ back_pos n p h ]

-- ---- and it is not below zero
not_under : (x : Float) (a c : ℕ) → HasValue x false a c → below_zero x ≡ false
unfolding below_zero lt
not_under nan a c v = absurd v
not_under (inf s) a c v = absurd v
not_under (fin true m e) a c v = absurd (true≢false v.0)
not_under (fin false m e) a c v = is_false (ltb (m * up e * 1) (0 * down e)) (λ t. none (m * up e) (down e) (ltb→lt (m * up e * 1) (0 * down e) t))
  where
    is_false : (b : Bool) → (T b → ⊥) → b ≡ false
    is_false true n = absurd (n tt)
    is_false false n = refl

    none : (n d : ℕ) → n * 1 < 0 * d → ⊥
    none n d h = omega arith

at_zero : below_zero (parsed 0 0 6) ≡ false
unfolding below_zero lt parsed round
at_zero = refl

pub not_negative : (n : ℕ) → n ≤ 10 ^ 12 → below_zero (parsed n 0 6) ≡ false
not_negative n h = elim (eq-zero-or-pos n) [
  | inl z ↦ subst (λ (x : ℕ). below_zero (parsed x 0 6) ≡ false) (sym z) at_zero
  | inr p ↦ not_under (parsed n 0 6) (g n p h) (2 ^ 1074) (quotient_value n p h)
]
