-- The bit pattern of a binary64 number from a half up to 2 ^ 64, and the nearest whole number worked out from it. Assumes nothing.
use mathlib.Core.Path.{◌≡◌, refl, sym, ap, ◌∙◌, subst}
use mathlib.Core.Bool.{Bool, true, false, not, ◌||◌, cond}
use Prim.Native.Nat.{ℕ, zero, suc, ◌+◌, ◌-◌, ◌*◌, ◌/◌, ◌%◌, ◌^◌, ◌≤◌, ◌<◌, min}
use native.Mathlib.Nat.{zero-lt-suc, lt_irrefl, le_trans, le_of_eq, lt_of_lt_of_le, lt_of_le_of_lt, lt_of_not-le, mul-one, one-mul, mul-pos, mul_comm, mul_assoc, mul_left_comm, mul_right_comm, add-mul, mul-le-mul_right, mul-lt-mul_of_pos_right, le_of_mul-le-mul_right, lt_of_mul-lt-mul_right, le-add_right, mod-lt, mod-eq_of_lt, div-div-eq-div-mul, add-div_right, mul-div-mul_right, div-le_self, div-eq_of_lt, le-div_iff_mul-le, pow-succ'}
use native.Mathlib.Omega.{arith}
use lib.IntN.{ℤ, pos, negsuc}
use lib.Dec.{T, leb, eqb, nleb→lt, ltb→lt, nltb→le, T_not, lit≤}
use lib.Pow.{pow-add, pow_pos, pow_mono, shl_lt, shl_exact}
use lib.Ieee.{Float, nan, inf, fin, binary64, up, down, odd, fits, is_nan, of_fields, of_bits, to_bits, lt, le, eq}
use lib.Ieee.Fits.{down_pos}
use lib.Ieee.Bits.{of_bits-to_bits}
use lib.Ieee.Exact.{HasValue, odd_sign}
use lib.Ieee.Order.{le_of_values}
use lib.Ieee.Positive.{num, den, positive, above, above_of_le, den_pos, value→cross, between, le→cross}
use Rattle.hertz.specs.Whole.{rounded}
use Rattle.hertz.proofs.Back.{rounded_value}

-- 2 ^ w
abbrev pub two_to : ℕ → Float
two_to w = fin false 1 (pos w)

-- ---- a test's answer as a fact
pub yes : {b : Bool} → b ≡ true → T b
yes h = subst T (sym h) tt

pub no : {b : Bool} → b ≡ false → T (not b)
no h = subst (λ (a : Bool). T (not a)) (sym h) tt

or_l : (a b : Bool) → T a → T (a || b)
or_l true b t = tt
or_l false b t = absurd t

pub lt→le : (x y : Float) → T (lt x y) → T (le x y)
unfolding le
lt→le x y h = or_l (lt x y) (eq x y) h

tidy_ge : (p n d : ℕ) → 1 * p * d ≤ n * 1 → p * d ≤ n
tidy_ge p n d h = le_trans (le_of_eq (ap (λ (k : ℕ). k * d) (sym (one-mul p)))) (le_trans h (le_of_eq (mul-one n)))

-- ---- from 2 ^ 64 on
full : (q c : ℕ) → suc c ≤ q → c ≡ min q c
full q c h = omega arith

fill : (n d : ℕ) → 18446744073709551616 * d ≤ n → 18446744073709551616 * (2 * d) ≤ 2 * n + d
fill n d h = omega arith

top_fin : (m : ℕ) (e : ℤ) → 2 ^ 64 * down e ≤ m * up e → 2 ^ 64 - 1 ≡ rounded (fin false m e)
unfolding rounded
top_fin m e h = full ((2 * (m * up e) + down e) / (2 * down e)) (2 ^ 64 - 1) ((le-div_iff_mul-le (mul-pos (zero-lt-suc 1) (down_pos e))).1 (fill (m * up e) (down e) h))

pub top_above : (x : Float) → T (above x) → T (not (lt x (two_to 64))) → 2 ^ 64 - 1 ≡ rounded x
unfolding lt rounded
top_above nan a b = absurd a
top_above (inf true) a b = absurd a
top_above (inf false) a b = refl
top_above (fin true m e) a b = absurd a
top_above (fin false m e) a b = top_fin m e (tidy_ge (2 ^ 64) (m * up e) (down e) (nltb→le (m * up e * 1) (1 * 2 ^ 64 * down e) b))

least : (k : ℕ) → 0 ≡ min 0 k
least k = omega arith

-- 0.5
abbrev pub half : Float
half = fin false 1 (negsuc 0)

under_pow : (x : Float) → T (positive x) → T (lt x (two_to 64)) → num x < 2 ^ 64 * den x
unfolding lt
under_pow nan p h = absurd p
under_pow (inf s) p h = absurd p
under_pow (fin true m e) p h = absurd p
under_pow (fin false m e) p h = subst (λ (k : ℕ). k < 2 ^ 64 * down e) (mul-one (m * up e)) (ltb→lt (m * up e * 1) (2 ^ 64 * down e) h)

-- finite and above zero, a half at least and below 2 ^ 64
abbrev Within : Float → Type 0
Within x = T (positive x) × (1 * den x ≤ num x * 2) × (num x < 2 ^ 64 * den x)

within : (x : Float) → T (le half x) → T (lt x (two_to 64)) → Within x
within x a b =
    let p : T (positive x) = between half x (two_to 64) tt tt a (lt→le x (two_to 64) b) in
    (p, le→cross half x tt p a, under_pow x p b)

-- ---- the same fraction in units: n / d is a / l
module _ (n d a l : ℕ) (D : 0 < d) (v : n * l ≡ a * d) where
  units_ge : 1 * d ≤ n * 2 → l ≤ a * 2
  units_ge h = le_of_mul-le-mul_right
      (le_trans (le_of_eq (mul_comm l d ∙ ap (λ (z : ℕ). z * l) (sym (one-mul d))))
      (le_trans (mul-le-mul_right l h) (le_of_eq (mul_right_comm n 2 l ∙ ap (λ (z : ℕ). z * 2) v ∙ mul_right_comm a d 2)))) D

  units_lt : (p : ℕ) → 0 < l → n < p * d → a < p * l
  units_lt p L h = lt_of_mul-lt-mul_right d (lt_of_le_of_lt (le_of_eq (sym v)) (lt_of_lt_of_le (mul-lt-mul_of_pos_right h L) (le_of_eq (mul_right_comm p d l))))

-- ---- what a pattern's fields are read as
of_bits_is : (b : ℕ) → of_bits binary64 b ≡ of_fields binary64 (leb (2 ^ 63) b) (b % 2 ^ 63 / 2 ^ 52) (b % 2 ^ 52)
unfolding of_bits
of_bits_is b = refl

sign_of : (x : Float) (s : Bool) (a c : ℕ) → T (positive x) → HasValue x s a c → s ≡ false
sign_of nan s a c p h = absurd p
sign_of (inf t) s a c p h = absurd p
sign_of (fin true m e) s a c p h = absurd p
sign_of (fin false m e) s a c p h = sym h.0

abbrev Read : Bool → ℕ → ℕ → Float → Type 0
Read s x t v = (j : ℕ) × (x ≡ suc j) × (s ≡ false) × HasValue v false ((2 ^ 52 + t) * 2 ^ j) (2 ^ 1074)

clear : (v : Float) (s : Bool) (a c : ℕ) → T (positive v) → HasValue v s a c → HasValue v false a c
clear v s a c p h = subst (λ (k : Bool). HasValue v k a c) (sign_of v s a c p h) h

short : (t : ℕ) → t < 2 ^ 52 → 2 ^ 1074 ≤ t * 2 ^ 0 * 2 → ⊥
short t h k = lt_irrefl (2 ^ 1074) (lt_of_le_of_lt k (lt_of_lt_of_le (mul-lt-mul_of_pos_right (shl_lt 52 0 h) (zero-lt-suc 1)) (lit≤ tt)))

at_top : (a b s : Bool) (v : Float) → T (positive (cond a (cond b (inf s) nan) v)) → T (not a)
at_top true true s v p = absurd p
at_top true false s v p = absurd p
at_top false b s v p = tt

past_top : (a : Bool) (u v : Float) → T (not a) → cond a u v ≡ v
past_top true u v n = absurd n
past_top false u v n = refl

read : (s : Bool) (x t : ℕ) → t < 2 ^ 52 → T (positive (of_fields binary64 s x t)) → 1 * den (of_fields binary64 s x t) ≤ num (of_fields binary64 s x t) * 2 → Read s x t (of_fields binary64 s x t)
unfolding of_fields
read s zero t h p g =
    let v = odd 53 s t 0 1074 in
    absurd (short t h (units_ge (num v) (den v) (t * 2 ^ 0) (2 ^ 1074) (den_pos v) (value→cross v (t * 2 ^ 0) (2 ^ 1074) (clear v s (t * 2 ^ 0) (2 ^ 1074) p (odd_sign 53 s t 0 1074))) g))
read s (suc j) t h p g =
    let v = odd 53 s (2 ^ 52 + t) j 1074 in
    let u = cond (eqb t 0) (inf s) nan in
    let is : cond (eqb (suc j) 2047) u v ≡ v = past_top (eqb (suc j) 2047) u v (at_top (eqb (suc j) 2047) (eqb t 0) s v p) in
    let q : T (positive v) = subst (λ (k : Float). T (positive k)) is p in (
      j,
      refl,
      sign_of v s ((2 ^ 52 + t) * 2 ^ j) (2 ^ 1074) q (odd_sign 53 s (2 ^ 52 + t) j 1074),
      subst (λ (k : Float). HasValue k false ((2 ^ 52 + t) * 2 ^ j) (2 ^ 1074)) (sym is) (clear v s ((2 ^ 52 + t) * 2 ^ j) (2 ^ 1074) q (odd_sign 53 s (2 ^ 52 + t) j 1074)),
    )

-- ---- the pattern b of an x that is a half at least and below 2 ^ 64
pow_lt_back : (i p : ℕ) → 2 ^ i < 2 ^ p → i < p
pow_lt_back i p h = lt_of_not-le (λ (g : p ≤ i). lt_irrefl (2 ^ i) (lt_of_lt_of_le h (pow_mono g)))

with_lead : (t : ℕ) → t < 2 ^ 52 → 2 ^ 52 + t < 2 ^ 53
with_lead t h = omega arith

lower : (j : ℕ) → 1074 < 53 + j + 1 → 1021 ≤ j
lower j h = omega arith

upper : (j : ℕ) → 52 + j < 1138 → j < 1086
upper j h = omega arith

abbrev Shape : ℕ → Float → Type 0
Shape b x = (j : ℕ) × (b / 2 ^ 52 ≡ suc j) × (1021 ≤ j) × (j < 1086) × HasValue x false ((2 ^ 52 + b % 2 ^ 52) * 2 ^ j) (2 ^ 1074)

shape_of : (b : ℕ) → Within (of_bits binary64 b) → Shape b (of_bits binary64 b)
shape_of b i =
    let x = of_bits binary64 b in
    let s = leb (2 ^ 63) b in
    let t = b % 2 ^ 52 in
    let q = 2 ^ 52 + t in
    let T52 : t < 2 ^ 52 = mod-lt b (pow_pos 52) in
    let r : Read s (b % 2 ^ 63 / 2 ^ 52) t x =
    subst (λ (k : Float). Read s (b % 2 ^ 63 / 2 ^ 52) t k) (sym (of_bits_is b))
    (read s (b % 2 ^ 63 / 2 ^ 52) t T52 (subst (λ (k : Float). T (positive k)) (of_bits_is b) i.0) (subst (λ (k : Float). 1 * den k ≤ num k * 2) (of_bits_is b) i.1)) in
    let j = r.0 in
    let small : b < 2 ^ 63 = nleb→lt (2 ^ 63) b (no r.2) in
    let v : num x * 2 ^ 1074 ≡ q * 2 ^ j * den x = value→cross x (q * 2 ^ j) (2 ^ 1074) r.3 in
    let lo : 2 ^ 1074 ≤ q * 2 ^ j * 2 = units_ge (num x) (den x) (q * 2 ^ j) (2 ^ 1074) (den_pos x) v i.1 in
    let hi : q * 2 ^ j < 2 ^ 64 * 2 ^ 1074 = units_lt (num x) (den x) (q * 2 ^ j) (2 ^ 1074) (den_pos x) v (2 ^ 64) (pow_pos 1074) i.2 in (
      j,
      ap (λ (k : ℕ). k / 2 ^ 52) (sym (mod-eq_of_lt small)) ∙ r.1,
      lower j (pow_lt_back 1074 (53 + j + 1) (lt_of_le_of_lt lo (lt_of_lt_of_le (mul-lt-mul_of_pos_right (shl_lt 53 j (with_lead t T52)) (zero-lt-suc 1)) (le_of_eq (sym (pow-add 2 (53 + j) 1)))))),
      upper j (pow_lt_back (52 + j) 1138 (lt_of_le_of_lt (le_trans (le_of_eq (pow-add 2 52 j)) (mul-le-mul_right (2 ^ j) (le-add_right (2 ^ 52) t))) hi)),
      r.3,
    )

-- ---- the body's arithmetic
-- q * 2 ^ j / 2 ^ 1074 to the nearest whole number, where j is s + 1 below 1074
nearest_down : (q p r l : ℕ) → 0 < p → 0 < r → l ≡ 2 * r * p → (q / r + 1) / 2 ≡ (2 * (q * p) + l) / (2 * l)
nearest_down q p r l P R e =
    ap (λ (z : ℕ). z / 2) (sym (add-div_right q R))
    ∙ div-div-eq-div-mul (q + r) r 2
    ∙ sym (mul-div-mul_right (q + r) (r * 2) (mul-pos (zero-lt-suc 1) P))
    ∙ ap (λ (z : ℕ). z / (r * 2 * (2 * p))) (add-mul q r (2 * p) ∙ ap (λ (z : ℕ). z + r * (2 * p)) (mul_left_comm q 2 p) ∙ ap (λ (z : ℕ). 2 * (q * p) + z) (mul_left_comm r 2 p ∙ sym (mul_assoc 2 r p) ∙ sym e))
    ∙ ap (λ (z : ℕ). (2 * (q * p) + l) / z) (sym (mul_assoc (r * 2) 2 p) ∙ ap (λ (z : ℕ). z * p) (mul_comm (r * 2) 2) ∙ mul_assoc 2 (r * 2) p ∙ ap (λ (z : ℕ). 2 * (z * p)) (mul_comm r 2) ∙ ap (λ (z : ℕ). 2 * z) (sym e))

nearest_whole : (n l : ℕ) → 0 < l → n ≡ (2 * (n * l) + l) / (2 * l)
nearest_whole n l L =
    go n ∙ sym (mul-div-mul_right (2 * n + 1) 2 L)
    ∙ ap (λ (z : ℕ). z / (2 * l)) (add-mul (2 * n) 1 l ∙ ap (λ (z : ℕ). z + 1 * l) (mul_assoc 2 n l) ∙ ap (λ (z : ℕ). 2 * (n * l) + z) (one-mul l))
  where
    go : (n : ℕ) → n ≡ (2 * n + 1) / 2
    go n = omega arith

capped : (a c : ℕ) → a < c → min a (c - 1) ≡ a
capped a c h = omega arith

capped_half : (q : ℕ) → q < 9007199254740992 → (q + 1) / 2 < 18446744073709551616
capped_half q h = omega arith

finite : (y : Float) → T (positive y) → T (not (is_nan y))
unfolding is_nan
finite nan p = absurd p
finite (inf s) p = tt
finite (fin s m e) p = tt

turn : (t : ℕ) → t + 4503599627370496 ≡ 4503599627370496 + t
turn t = omega arith

module _ (x : Float) (F : T (fits binary64 x)) (a : T (le half x)) (c : T (lt x (two_to 64))) where
  abbrev b : ℕ
  b = to_bits binary64 x

  abbrev pub q : ℕ
  q = b % 2 ^ 52 + 2 ^ 52

  z : Shape b x
  z = subst (λ (k : Float). Shape b k) (of_bits-to_bits binary64 x F) (shape_of b (subst (λ (k : Float). Within k) (sym (of_bits-to_bits binary64 x F)) (within x a c)))

  pub is_no_nan : T (not (is_nan x))
  is_no_nan = finite x (within x a c).0

  pub q_lt : q < 2 ^ 53
  q_lt = go (b % 2 ^ 52) (mod-lt b (pow_pos 52))
    where
      go : (t : ℕ) → t < 2 ^ 52 → t + 2 ^ 52 < 2 ^ 53
      go t h = omega arith

  pub down_by : 1074 - b / 2 ^ 52 < 64
  down_by = go (b / 2 ^ 52) z.0 z.1 z.2
    where
      go : (e j : ℕ) → e ≡ suc j → 1021 ≤ j → 1074 - e < 64
      go e j p q = omega arith

  pub up_by : b / 2 ^ 52 - 1075 < 64
  up_by = go (b / 2 ^ 52) z.0 z.1 z.3
    where
      go : (e j : ℕ) → e ≡ suc j → j < 1086 → e - 1075 < 64
      go e j p q = omega arith

  is : rounded x ≡ min ((2 * (q * 2 ^ z.0) + 2 ^ 1074) / (2 * 2 ^ 1074)) (2 ^ 64 - 1)
  is = rounded_value x (q * 2 ^ z.0) (2 ^ 1074) (pow_pos 1074) (subst (λ (k : ℕ). HasValue x false (k * 2 ^ z.0) (2 ^ 1074)) (sym (turn (b % 2 ^ 52))) z.4)

  pub cut_down : b / 2 ^ 52 < 1075 → (q / 2 ^ (1074 - b / 2 ^ 52) + 1) / 2 ≡ rounded x
  cut_down h =
      let j = z.0 in
      let r = 2 ^ (1074 - b / 2 ^ 52) in
      let e : 2 ^ 1074 ≡ 2 * r * 2 ^ j = ap (λ (k : ℕ). 2 ^ k) (sym (by (b / 2 ^ 52) j z.1 h)) ∙ pow-add 2 (suc (1074 - b / 2 ^ 52)) j ∙ ap (λ (k : ℕ). k * 2 ^ j) (pow-succ' 2 (1074 - b / 2 ^ 52)) in
      sym (capped ((q / r + 1) / 2) (2 ^ 64) (capped_half (q / r) (lt_of_le_of_lt (div-le_self q r) q_lt)))
      ∙ ap (λ (k : ℕ). min k (2 ^ 64 - 1)) (nearest_down q (2 ^ j) r (2 ^ 1074) (pow_pos j) (pow_pos (1074 - b / 2 ^ 52)) e)
      ∙ sym is
    where
      by : (e j : ℕ) → e ≡ suc j → e < 1075 → suc (1074 - e) + j ≡ 1074
      by e j p q = omega arith

  pub cut_up : 1075 ≤ b / 2 ^ 52 → q * 2 ^ (b / 2 ^ 52 - 1075) % 2 ^ 64 ≡ rounded x
  cut_up h =
      let j = z.0 in
      let k = b / 2 ^ 52 - 1075 in
      let n = q * 2 ^ k in
      let e : n * 2 ^ 1074 ≡ q * 2 ^ j = mul_assoc q (2 ^ k) (2 ^ 1074) ∙ ap (λ (y : ℕ). q * y) (sym (pow-add 2 k 1074) ∙ ap (λ (y : ℕ). 2 ^ y) (by (b / 2 ^ 52) j z.1 h)) in
      let room : 53 + k ≤ 64 = fit (b / 2 ^ 52) j z.1 z.3 in
      shl_exact 53 k 64 q_lt room
      ∙ sym (capped n (2 ^ 64) (lt_of_lt_of_le (shl_lt 53 k q_lt) (pow_mono room)))
      ∙ ap (λ (y : ℕ). min y (2 ^ 64 - 1)) (nearest_whole n (2 ^ 1074) (pow_pos 1074) ∙ ap (λ (y : ℕ). (2 * y + 2 ^ 1074) / (2 * 2 ^ 1074)) e)
      ∙ sym is
    where
      by : (e j : ℕ) → e ≡ suc j → 1075 ≤ e → e - 1075 + 1074 ≡ j
      by e j p q = omega arith

      fit : (e j : ℕ) → e ≡ suc j → j < 1086 → 53 + (e - 1075) ≤ 64
      fit e j p q = omega arith

-- ---- below a half
none : (n d : ℕ) → n * 2 < 1 * d → 2 * n + d < 2 * d
none n d h = omega arith

not_half : (m : ℕ) (e : ℤ) → T (not (le half (fin false m e))) → m * up e * 2 < 1 * down e
not_half m e h = lt_of_not-le (λ (g : 1 * down e ≤ m * up e * 2). T_not (le half (fin false m e)) h
    (le_of_values half (fin false m e) 1 2 (m * up e) (down e) (zero-lt-suc 1) (down_pos e) (refl, refl) (refl, refl) g))

pub below_half : (x : Float) → T (not (le half x)) → 0 ≡ rounded x
unfolding le lt rounded
below_half nan a = refl
below_half (inf true) a = refl
below_half (inf false) a = absurd a
below_half (fin true m e) a = refl
below_half (fin false m e) a = least (2 ^ 64 - 1) ∙ ap (λ (z : ℕ). min z (2 ^ 64 - 1)) (sym (div-eq_of_lt (none (m * up e) (down e) (not_half m e a))))

pub half_top : (x : Float) → T (le half x) → T (not (lt x (two_to 64))) → 2 ^ 64 - 1 ≡ rounded x
half_top x a b = top_above x (above_of_le half x tt a) b
