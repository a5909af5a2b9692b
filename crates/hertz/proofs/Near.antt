-- How near a binary64's `round` comes to its fraction in the normal range: within one part in 2 ^ 52.
-- Assumes nothing.
use mathlib.Core.Path.{◌≡◌, sym, ap, ◌∙◌, subst}
use Prim.Native.Nat.{ℕ, suc, ◌+◌, ◌-◌, ◌*◌, ◌/◌, ◌%◌, ◌^◌, ◌≤◌, ◌<◌, compare}
use native.Mathlib.Nat.{le_trans, le_of_eq, mul_comm, mul_assoc, mul-le-mul_right, mul-pos, le-div_iff_mul-le, div-add-mod', mod-lt, suc-mul}
use native.Mathlib.Omega.{arith}
use lib.Dec.{lit<}
use lib.Pow.{pow-add, pow_pos}
use lib.Ieee.{size, nearest, binary64}
use lib.Ieee.Digits.{size_reaches}
use lib.Ieee.Fits.{nearest-le}
use lib.Ieee.Nearest.{closest, nearest-ge}
use lib.Ieee.Order.{drop, kept}
use lib.Ieee.Scale.{grid, normal_of_fraction}

-- ---- the nearest whole number of b-ths is less than one b-th away, or just one
closest_hi : (a b : ℕ) → closest a b * b ≤ a + b
closest_hi a b =
    let w = a / b in
    let o = compare (a % b * 2) b in
    let p : nearest w o * b ≤ suc w * b = mul-le-mul_right b (nearest-le w o) in
    omega (arith, suc-mul w b, div-add-mod' a b)

closest_lo : (a b : ℕ) → 0 < b → a ≤ closest a b * b + b
closest_lo a b B =
    let w = a / b in
    let o = compare (a % b * 2) b in
    let p : w * b ≤ nearest w o * b = mul-le-mul_right b (nearest-ge w o) in
    omega (arith, div-add-mod' a b, mod-lt a B)

-- ---- in the normal range the unit is at most one part in 2 ^ (p - 1)
last : (z p : ℕ) → 0 < p → p ≤ z → z - 1 < z
last z p P h = omega arith

split : (z p : ℕ) → 0 < p → p ≤ z → z - p + (p - 1) ≡ z - 1
split z p P h = omega arith

unit_small : (p n c : ℕ) → 0 < p → 0 < c → p ≤ size (n / c) → c * 2 ^ drop p n c * 2 ^ (p - 1) ≤ n
unit_small p n c P C N =
    let z = size (n / c) in
    let lo : 2 ^ (z - 1) * c ≤ n = (le-div_iff_mul-le C).0 (size_reaches (n / c) (z - 1) (last z p P N)) in
    le_trans (le_of_eq (mul_assoc c (2 ^ (z - p)) (2 ^ (p - 1)) ∙ ap (λ (x : ℕ). c * x) (sym (pow-add 2 (z - p) (p - 1)) ∙ ap (λ (x : ℕ). 2 ^ x) (split z p P N)) ∙ mul_comm c (2 ^ (z - 1)))) lo

-- g / l is a / c, up to one part in 2 ^ 52
pub record Near (a c g l : ℕ) : Type 0 where
  pub hi : g * c * 2 ^ 52 ≤ a * l * 2 ^ 52 + a * l
  pub lo : a * l * 2 ^ 52 ≤ g * c * 2 ^ 52 + a * l

join_hi : (k n u : ℕ) → k ≤ n + u → u * 4503599627370496 ≤ n → k * 4503599627370496 ≤ n * 4503599627370496 + n
join_hi k n u h s = omega arith

join_lo : (k n u : ℕ) → n ≤ k + u → u * 4503599627370496 ≤ n → n * 4503599627370496 ≤ k * 4503599627370496 + n
join_lo k n u h s = omega arith

pub near : (a c : ℕ) → 0 < c → 2 ^ 52 * c ≤ a * 2 ^ 1074 → Near a c (grid binary64 a c) (2 ^ 1074)
near a c C h =
    let n = a * 2 ^ 1074 in
    let k = drop 53 n c in
    let u = c * 2 ^ k in
    let s : u * 2 ^ 52 ≤ n = unit_small 53 n c (lit< tt) C (normal_of_fraction binary64 a c C h) in
    let e : kept 53 n c * 2 ^ k * c ≡ closest n u * u = mul_assoc (kept 53 n c) (2 ^ k) c ∙ ap (λ (x : ℕ). kept 53 n c * x) (mul_comm (2 ^ k) c) in
    record {
      hi = join_hi (kept 53 n c * 2 ^ k * c) n u (subst (λ (x : ℕ). x ≤ n + u) (sym e) (closest_hi n u)) s;
      lo = join_lo (kept 53 n c * 2 ^ k * c) n u (subst (λ (x : ℕ). n ≤ x + u) (sym e) (closest_lo n u (mul-pos C (pow_pos k)))) s;
    }
