-- Products and quotients of binary64 numbers by the fractions that they equal: in the exact window the one product or quotient is the
-- correctly rounded value of the decimal. Assumes nothing.
use mathlib.Core.Path.{◌≡◌, refl, sym, ap, ◌∙◌, subst}
use mathlib.Core.Bool.{Bool, true, false, cond, true≢false}
use Prim.Native.Nat.{ℕ, zero, suc, ◌+◌, ◌-◌, ◌*◌, ◌^◌, ◌≤◌, ◌<◌}
use native.Mathlib.Nat.{zero-lt-suc, zero-mul, lt_irrefl, mul-one, mul-pos, mul_comm, mul_assoc, mul_left_comm, mul-mul-mul_comm, pow-succ', le_of_lt}
use lib.IntN.{ℤ, pos}
use lib.Dec.{T, eqb, eqb→eq}
use native.Mathlib.Omega.{arith}
use lib.Pow.{pow_pos, pow-add}
use lib.Ieee.{Float, nan, inf, fin, Format, binary64, up, down, round, mul, div, of_int}
use lib.Ieee.Fits.{up_pos, down_pos}
use lib.Ieee.Exact.{HasValue}
use lib.Ieee.Back.{round_whole}
use lib.Ieee.Scale.{round_same}
use Rattle.hertz.specs.Value.{ten_to, parsed}
use Rattle.hertz.specs.Whole.{zero as zero-float}

-- ---- a product and a quotient, by any fractions a / c and b / d that the two equal
pub mul_value : (f : Format) (x y : Float) (a c b d : ℕ) → 0 < c → 0 < d → HasValue x false a c → HasValue y false b d → mul f x y ≡ round f false (a * b) (c * d)
unfolding mul
mul_value f nan y a c b d C D h k = absurd h
mul_value f (inf s) y a c b d C D h k = absurd h
mul_value f (fin true m e) y a c b d C D h k = absurd (true≢false h.0)
mul_value f (fin false m e) nan a c b d C D h k = absurd k
mul_value f (fin false m e) (inf t) a c b d C D h k = absurd k
mul_value f (fin false m e) (fin true n g) a c b d C D h k = absurd (true≢false k.0)
mul_value f (fin false m e) (fin false n g) a c b d C D h k =
    round_same f false (m * up e * (n * up g)) (down e * down g) (a * b) (c * d) (mul-pos (down_pos e) (down_pos g)) (mul-pos C D)
    (mul-mul-mul_comm (m * up e) (n * up g) c d ∙ ap (λ (z : ℕ). z * (n * up g * d)) h.1 ∙ ap (λ (z : ℕ). a * down e * z) k.1 ∙ mul-mul-mul_comm a (down e) b (down g))

-- a value that is not zero has an m that is not 0
no_zero : (n b d : ℕ) (g : ℤ) → 0 < b → n * up g * d ≡ b * down g → n ≡ 0 → ⊥
no_zero n b d g B k z = lt_irrefl 0 (subst (λ (x : ℕ). 0 < x) (sym k ∙ ap (λ (y : ℕ). y * up g * d) z ∙ go (up g) d) (mul-pos B (down_pos g)))
  where
    go : (u d : ℕ) → 0 * u * d ≡ 0
    go u d = ap (λ (y : ℕ). y * d) (zero-mul u) ∙ zero-mul d

past : (t : Bool) (u v : Float) → (T t → ⊥) → cond t u v ≡ v
past true u v n = absurd (n tt)
past false u v n = refl

pub div_value : (f : Format) (x y : Float) (a c b d : ℕ) → 0 < c → 0 < d → 0 < b → HasValue x false a c → HasValue y false b d → div f x y ≡ round f false (a * d) (b * c)
unfolding div
div_value f nan y a c b d C D B h k = absurd h
div_value f (inf s) y a c b d C D B h k = absurd h
div_value f (fin true m e) y a c b d C D B h k = absurd (true≢false h.0)
div_value f (fin false m e) nan a c b d C D B h k = absurd k
div_value f (fin false m e) (inf t) a c b d C D B h k = absurd k
div_value f (fin false m e) (fin true n g) a c b d C D B h k = absurd (true≢false k.0)
div_value f (fin false m e) (fin false zero g) a c b d C D B h k = absurd (no_zero zero b d g B k.1 refl)
div_value f (fin false m e) (fin false (suc n) g) a c b d C D B h k =
    past (eqb (suc n) 0) (cond (eqb m 0) nan (inf false)) (round f false (m * up e * down g) (suc n * up g * down e)) (λ t. no_zero (suc n) b d g B k.1 (eqb→eq (suc n) 0 t))
    ∙ round_same f false (m * up e * down g) (suc n * up g * down e) (a * d) (b * c) (mul-pos (mul-pos (zero-lt-suc n) (up_pos g)) (down_pos e)) (mul-pos B C)
    (cross (m * up e) (down e) (suc n * up g) (down g) h.1 k.1)
  where
    cross : (p q r s : ℕ) → p * c ≡ a * q → r * d ≡ b * s → p * s * (b * c) ≡ a * d * (r * q)
    cross p q r s h k =
        let x : p * c * (b * s) ≡ a * q * (r * d) = ap (λ (z : ℕ). z * (b * s)) h ∙ ap (λ (z : ℕ). a * q * z) (sym k) in
        simp (mul_assoc, mul_comm, mul_left_comm) (simp (mul_assoc, mul_comm, mul_left_comm) at x)

-- ---- a whole number, and a power of ten
pub whole_value : (m : ℕ) → m ≤ 2 ^ 53 → HasValue (of_int binary64 (pos m)) false m 1
unfolding of_int
whole_value m h = round_whole binary64 false m h

fives_twos : (k : ℕ) → 5 ^ k * 2 ^ k ≡ 10 ^ k
fives_twos zero = refl
fives_twos (suc k) =
    ap (λ (z : ℕ). z * 2 ^ suc k) (pow-succ' 5 k) ∙ ap (λ (z : ℕ). 5 * 5 ^ k * z) (pow-succ' 2 k)
    ∙ mul-mul-mul_comm 5 (5 ^ k) 2 (2 ^ k) ∙ ap (λ (z : ℕ). 10 * z) (fives_twos k) ∙ sym (pow-succ' 10 k)

pub ten_value : (k : ℕ) → HasValue (ten_to k) false (10 ^ k) 1
ten_value k = (refl, ap (λ (z : ℕ). z * 1) (fives_twos k))

ten_pos : (k : ℕ) → 0 < 10 ^ k
ten_pos k = subst (λ (z : ℕ). 0 < z) (fives_twos k) (mul-pos (five_pos k) (pow_pos k))
  where
    five_pos : (k : ℕ) → 0 < 5 ^ k
    five_pos zero = zero-lt-suc 0
    five_pos (suc k) = subst (λ (z : ℕ). 0 < z) (sym (pow-succ' 5 k)) (mul-pos (zero-lt-suc 4) (five_pos k))

-- the power that is left of two
apart : (a b : ℕ) → b ≤ a → 10 ^ (a - b) * 10 ^ b ≡ 10 ^ a
apart a b h = sym (pow-add 10 (a - b) b) ∙ ap (λ (z : ℕ). 10 ^ z) (go a b h)
  where
    go : (a b : ℕ) → b ≤ a → a - b + b ≡ a
    go a b h = omega arith

-- ---- the one product, and the one quotient, is the nearest to the decimal
pub product_is : (m up down : ℕ) (t : Float) → m ≤ 2 ^ 53 → down ≤ up → t ≡ ten_to (up - down) → mul binary64 (of_int binary64 (pos m)) t ≡ parsed m up down
unfolding parsed
product_is m up down t h d e =
    ap (mul binary64 (of_int binary64 (pos m))) e
    ∙ mul_value binary64 (of_int binary64 (pos m)) (ten_to (up - down)) m 1 (10 ^ (up - down)) 1 (zero-lt-suc 0) (zero-lt-suc 0) (whole_value m h) (ten_value (up - down))
    ∙ round_same binary64 false (m * 10 ^ (up - down)) (1 * 1) (m * 10 ^ up) (10 ^ down) (zero-lt-suc 0) (ten_pos down)
    (mul_assoc m (10 ^ (up - down)) (10 ^ down) ∙ ap (λ (z : ℕ). m * z) (apart up down d) ∙ sym (mul-one (m * 10 ^ up)))

pub quotient_is : (m up down : ℕ) (t : Float) → m ≤ 2 ^ 53 → up < down → t ≡ ten_to (down - up) → div binary64 (of_int binary64 (pos m)) t ≡ parsed m up down
unfolding parsed
quotient_is m up down t h d e =
    ap (div binary64 (of_int binary64 (pos m))) e
    ∙ div_value binary64 (of_int binary64 (pos m)) (ten_to (down - up)) m 1 (10 ^ (down - up)) 1 (zero-lt-suc 0) (zero-lt-suc 0) (ten_pos (down - up)) (whole_value m h) (ten_value (down - up))
    ∙ round_same binary64 false (m * 1) (10 ^ (down - up) * 1) (m * 10 ^ up) (10 ^ down) (mul-pos (ten_pos (down - up)) (zero-lt-suc 0)) (ten_pos down)
    (ap (λ (z : ℕ). z * 10 ^ down) (mul-one m) ∙ ap (λ (z : ℕ). m * z) (sym (apart down up (le_of_lt d)) ∙ mul_comm (10 ^ (down - up)) (10 ^ up)) ∙ sym (mul_assoc m (10 ^ up) (10 ^ (down - up))) ∙ ap (λ (z : ℕ). m * 10 ^ up * z) (sym (mul-one (10 ^ (down - up)))))

-- six decimals
pub parsed_six : (m : ℕ) → parsed m 0 6 ≡ round binary64 false m 1000000
unfolding parsed
parsed_six m = ap (λ (z : ℕ). round binary64 false z 1000000) (mul-one m)

nothing : round binary64 false 0 1 ≡ zero-float
unfolding round
nothing = refl

-- zero digits make zero, at every exponent
pub parsed_zero : (up down : ℕ) → parsed 0 up down ≡ zero-float
unfolding parsed
parsed_zero up down =
    round_same binary64 false (0 * 10 ^ up) (10 ^ down) 0 1 (ten_pos down) (zero-lt-suc 0) (go (10 ^ up) (10 ^ down)) ∙ nothing
  where
    go : (u d : ℕ) → 0 * u * 1 ≡ 0 * d
    go u d = omega arith
