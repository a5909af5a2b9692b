-- A whole number of hertz below 2 ^ 33 * 10 ^ 6, over 10 ^ 6 in binary64, is written by `{:.6}` with the number's own digits. Assumes nothing.
use mathlib.Core.Path.{◌≡◌, refl, sym, ap, ◌∙◌, subst}
use mathlib.Core.Bool.{false, not}
use Prim.Native.Nat.{ℕ, suc, ◌+◌, ◌-◌, ◌*◌, ◌/◌, ◌%◌, ◌^◌, ◌≤◌, ◌<◌, compare, Ordering}
use native.Mathlib.Nat.{le_of_lt, le_antisymm, le_of_suc-le-suc, lt_of_le_of_lt, lt_of_lt_of_le, suc-mul, mul_comm, mul_assoc, mul_right_comm, mul-le-mul_right, mul-le-mul_left, mul-lt-mul_of_pos_right, lt_of_mul-lt-mul_right, mul-pos, div-add-mod', mod-lt, div-lt_iff_lt-mul}
use native.Mathlib.Omega.{arith}
use lib.IntN.{pos}
use lib.Dec.{T, is_le, compare_is_eq, leb→le, nleb→lt, eqb→eq, lit≤, lit<}
use lib.Pow.{pow_pos, pow_mono}
use lib.Ieee.{Float, nan, inf, fin, binary64, up, down, size, nearest, div, of_int}
use lib.Ieee.Digits.{size-le}
use lib.Ieee.Fits.{down_pos}
use lib.Ieee.Exact.{HasValue}
use lib.Ieee.Nearest.{closest, closest_same}
use lib.Ieee.Order.{drop, kept}
use lib.Ieee.Scale.{grid, round_val}
use Rattle.hertz.specs.Value.{parsed}
use Rattle.hertz.specs.Whole.{million, millionths}
use Rattle.hertz.proofs.ValueLaws.{quotient_is, parsed_six}

-- ---- the nearest whole number of b-ths is at most half a b-th away
tie_two : (w : ℕ) → (w ≤ w + w % 2) × (w + w % 2 ≤ suc w)
tie_two w = (omega arith, omega arith)

abbrev Half : ℕ → ℕ → ℕ → Type 0
Half k a b = (2 * (k * b) ≤ 2 * a + b) × (2 * a ≤ 2 * (k * b) + b)

half_of : (w r b : ℕ) (o : Ordering) → r < b → (T (is_le o) → r * 2 ≤ b) → (T (not (is_le o)) → b < r * 2) → (T (compare_is_eq o) → r * 2 ≡ b) → Half (nearest w o) (w * b + r) b
half_of w r b Ordering.lt h x y z = let k = x tt in (omega arith, omega arith)
half_of w r b Ordering.eq h x y z =
    let k = z tt in
    let p = mul-le-mul_right b (tie_two w).0 in
    let q = mul-le-mul_right b (tie_two w).1 in
    (omega (arith, suc-mul w b), omega arith)
half_of w r b Ordering.gt h x y z = let k = y tt in (omega (arith, suc-mul w b), omega (arith, suc-mul w b))

pub half : (a b : ℕ) → 0 < b → Half (closest a b) a b
half a b B =
    subst (λ (z : ℕ). Half (closest a b) z b) (div-add-mod' a b)
    (half_of (a / b) (a % b) b (compare (a % b * 2) b) (mod-lt a B) (leb→le (a % b * 2) b) (nleb→lt (a % b * 2) b) (eqb→eq (a % b * 2) b))

-- so less than half a b-th from n * b it is n
module _ (a b n : ℕ) (B : 0 < b) (lo : 2 * (n * b) < 2 * a + b) (hi : 2 * a < 2 * (n * b) + b) where
  abbrev k : ℕ
  k = closest a b

  above : k * b < suc n * b
  above = let h = half a b B in omega (arith, suc-mul n b, h.0)

  below : n * b < suc k * b
  below = let h = half a b B in omega (arith, suc-mul k b, h.1)

  pub closest_is : closest a b ≡ n
  closest_is = le_antisymm (le_of_suc-le-suc (lt_of_mul-lt-mul_right b above)) (le_of_suc-le-suc (lt_of_mul-lt-mul_right b below))

-- ---- a value's millionths, by any fraction that it equals
millionths_value : (x : Float) (a c : ℕ) → 0 < c → HasValue x false a c → millionths x ≡ closest (a * 1000000) c
unfolding millionths
millionths_value nan a c C h = absurd h
millionths_value (inf s) a c C h = absurd h
millionths_value (fin s m e) a c C h =
    closest_same (m * up e * 1000000) (down e) (a * 1000000) c (down_pos e) C
    (mul_right_comm (m * up e) 1000000 c ∙ ap (λ (z : ℕ). z * 1000000) h.1 ∙ mul_right_comm a (down e) 1000000)

-- ---- the numbers, with 2 ^ 1074 as a variable
strict_lo : (G M v l : ℕ) → 2 * M ≤ 2 * G + v → v < l → 2 * M < 2 * G + l
strict_lo G M v l a b = omega arith

strict_hi : (G M v l : ℕ) → 2 * G ≤ 2 * M + v → v < l → 2 * G < 2 * M + l
strict_hi G M v l a b = omega arith

bound : (x M l : ℕ) → 2 * (x * 1000000) < 2 * M + l → M ≤ 8589934592000000 * l → x ≤ 8589934592000001 * l
bound x M l a b = let c : x ≤ M + l = go x M l a in omega arith
  where
    go : (x M l : ℕ) → 2 * (x * 1000000) < 2 * M + l → x ≤ M + l
    go x M l a = omega arith

-- ---- the quotient
few : (z : ℕ) → z ≤ 1107 → z - 53 ≤ 1054
few z h = omega arith

-- 10 ^ 6 units are less than 2 ^ 1074
module _ (n : ℕ) (most : n < 8589934592000000) where
  abbrev N : ℕ
  N = n * 2 ^ 1074

  abbrev u : ℕ
  u = 1000000 * 2 ^ drop 53 N 1000000

  abbrev g : ℕ
  g = grid binary64 n 1000000

  unit : u < 2 ^ 1074
  unit =
      let q : N / 1000000 < 2 ^ 1107 = (div-lt_iff_lt-mul (lit< tt)).1 (lt_of_lt_of_le (mul-lt-mul_of_pos_right most (pow_pos 1074)) (lit≤ tt)) in
      lt_of_le_of_lt (mul-le-mul_left 1000000 (pow_mono (few (size (N / 1000000)) (size-le (N / 1000000) 1107 q)))) (lit< tt)

  is : g * 1000000 ≡ closest N u * u
  is = mul_assoc (kept 53 N 1000000) (2 ^ drop 53 N 1000000) 1000000 ∙ ap (λ (z : ℕ). kept 53 N 1000000 * z) (mul_comm (2 ^ drop 53 N 1000000) 1000000)

  halves : (2 * (g * 1000000) ≤ 2 * N + u) × (2 * N ≤ 2 * (g * 1000000) + u)
  halves = subst (λ (z : ℕ). (2 * z ≤ 2 * N + u) × (2 * N ≤ 2 * z + u)) (sym is) (half N u (mul-pos (lit< tt) (pow_pos (drop 53 N 1000000))))

  value : HasValue (parsed n 0 6) false g (2 ^ 1074)
  value = subst (λ (x : Float). HasValue x false g (2 ^ 1074)) (sym (parsed_six n)) (round_val binary64 n 1000000
      (lt_of_le_of_lt (bound g N (2 ^ 1074) (strict_hi (g * 1000000) N u (2 ^ 1074) halves.0 unit) (mul-le-mul_right (2 ^ 1074) (le_of_lt most))) (lit< tt)))

  written_ten : millionths (parsed n 0 6) ≡ n
  written_ten =
      millionths_value (parsed n 0 6) g (2 ^ 1074) (pow_pos 1074) value
      ∙ closest_is (g * 1000000) (2 ^ 1074) n (pow_pos 1074) (strict_lo (g * 1000000) N u (2 ^ 1074) halves.1 unit) (strict_hi (g * 1000000) N u (2 ^ 1074) halves.0 unit)

-- `format!("{:.6}", hz as f64 / 1_000_000.0)`
pub written : (n : ℕ) → n < 8589934592000000 → millionths (div binary64 (of_int binary64 (pos n)) million) ≡ n
written n h = ap millionths (quotient_is n 0 6 million (le_of_lt (lt_of_lt_of_le h (lit≤ tt))) (lit< tt) refl) ∙ written_ten n h
