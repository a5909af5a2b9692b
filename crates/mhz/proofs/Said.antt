-- A text that says a decimal is one that the grammar makes. Assumes nothing.
use mathlib.Core.Path.{◌≡◌, refl, sym, ap, ◌∙◌, subst}
use mathlib.Core.Bool.{Bool, true, false, true≢false}
use mathlib.Core.List.{List, [], ◌∷◌, ◌++◌, append-nil, append_assoc}
use Prim.Native.Nat.{ℕ, ◌+◌, ◌<◌}
use native.Mathlib.Omega.{arith}
use lib.ListN.{length, drop}
use lib.Dec.{eqb}
use borrow.Author.Tests.{eqb-true, eqb-false}
use Rattle.text.specs.Pick.{pick, either}
use Rattle.decimal.specs.Decimal.{all_digits}
use Rattle.mhz.specs.Digits.{is_digit, digits_of, after_digits, number_of}
use Rattle.mhz.specs.Number.{Number, none, not_a_number, infinity, decimal, malformed, power, negative, unsigned, pointed, whole_part, fraction_part, after_decimal, exponent_of, with_exponent, decimal_of, is_infinity, is_nan, unsigned_number, number_in}
use Rattle.mhz.specs.Number.{all_digits as onlyDigits, Exponent as Told}
use Rattle.mhz.specs.Grammar.{Sign, no_sign, plus, minus, Mantissa, no_point, point, Exponent, no_exponent, small_e, capital_e, Decimal, of}

-- ---- digits, and what follows
split : (xs : List ℕ) → xs ≡ digits_of xs ++ after_digits xs
split [] = refl
split (b ∷ bs) = go (split bs) (is_digit b)
  where
    go : bs ≡ digits_of bs ++ after_digits bs → (t : Bool) → b ∷ bs ≡ pick t (b ∷ digits_of bs) [] ++ pick t (after_digits bs) (b ∷ bs)
    go i true = ap (λ (z : List ℕ). b ∷ z) i
    go i false = refl

are_digits : (xs : List ℕ) → all_digits (digits_of xs) ≡ true
are_digits [] = refl
are_digits (b ∷ bs) = go (are_digits bs) (is_digit b) refl
  where
    go : all_digits (digits_of bs) ≡ true → (t : Bool) → is_digit b ≡ t → all_digits (pick t (b ∷ digits_of bs) []) ≡ true
    go i true e = rw e i
    go i false e = refl

-- ---- the sign
Signed : List ℕ → Bool → List ℕ → Type 0
Signed xs n rest = (s : List ℕ) × Sign s n × (xs ≡ s ++ rest)

signed : (xs : List ℕ) → Signed xs (negative xs) (unsigned xs)
unfolding Signed negative unsigned
signed [] = ([], no_sign, refl)
signed (b ∷ bs) = go (eqb b 0x2B) refl (eqb b 0x2D) refl
  where
    go : (p : Bool) → eqb b 0x2B ≡ p → (q : Bool) → eqb b 0x2D ≡ q → Signed (b ∷ bs) q (drop (pick (either p q) 1 0) (b ∷ bs))
    go true e true f = absurd (let x = eqb-true b 0x2B e in let y = eqb-true b 0x2D f in omega arith)
    go true e false f = (0x2B ∷ [], plus, ap (λ (z : ℕ). z ∷ bs) (eqb-true b 0x2B e))
    go false e true f = (0x2D ∷ [], minus, ap (λ (z : ℕ). z ∷ bs) (eqb-true b 0x2D f))
    go false e false f = ([], no_sign, refl)

-- ---- the exponent
powered : (b : ℕ) (bs : List ℕ) (n : Bool) (k : ℕ) → ((s ds : List ℕ) (m : Bool) → Sign s m → all_digits ds ≡ true → 0 < length ds → Exponent (b ∷ (s ++ ds)) m (number_of ds))
    → pick (onlyDigits (unsigned bs)) (power (negative bs) (number_of (digits_of (unsigned bs)))) malformed ≡ power n k → Exponent (b ∷ bs) n k
unfolding onlyDigits Signed
powered b bs n k make e = go (eqb (length (digits_of (unsigned bs))) 0) refl (eqb (length (after_digits (unsigned bs))) 0) refl e
  where
    none_left : (xs : List ℕ) → length xs ≡ 0 → xs ≡ []
    none_left [] e = refl
    none_left (x ∷ xs) e = absurd (omega arith)

    some : (m : ℕ) → (m ≡ 0 → ⊥) → 0 < m
    some m h = omega arith

    go : (p : Bool) → eqb (length (digits_of (unsigned bs))) 0 ≡ p → (q : Bool) → eqb (length (after_digits (unsigned bs))) 0 ≡ q
        → pick (pick p false q) (power (negative bs) (number_of (digits_of (unsigned bs)))) malformed ≡ power n k → Exponent (b ∷ bs) n k
    go true f q g e = absurd (let z : ◌≡◌ {A = ℕ} 0 1 = cc in omega arith)
    go false f false g e = absurd (let z : ◌≡◌ {A = ℕ} 0 1 = cc in omega arith)
    go false f true g e =
        let t = signed bs in
        let a : after_digits (unsigned bs) ≡ [] = none_left (after_digits (unsigned bs)) (eqb-true (length (after_digits (unsigned bs))) 0 g) in
        let d : unsigned bs ≡ digits_of (unsigned bs) = split (unsigned bs) ∙ ap (λ (z : List ℕ). digits_of (unsigned bs) ++ z) a ∙ append-nil (digits_of (unsigned bs)) in
        let j : bs ≡ t.0 ++ digits_of (unsigned bs) = t.2 ∙ ap (λ (z : List ℕ). t.0 ++ z) d in
        let x = make t.0 (digits_of (unsigned bs)) (negative bs) t.1 (are_digits (unsigned bs)) (some (length (digits_of (unsigned bs))) (eqb-false (length (digits_of (unsigned bs))) 0 f)) in
        let en : negative bs ≡ n = cc in
        let ek : number_of (digits_of (unsigned bs)) ≡ k = cc in
        subst (λ (z : List ℕ). Exponent (b ∷ z) n k) (sym j) (subst (λ (m : Bool). Exponent (b ∷ (t.0 ++ digits_of (unsigned bs))) m k) en (subst (λ (m : ℕ). Exponent (b ∷ (t.0 ++ digits_of (unsigned bs))) (negative bs) m) ek x))

exponent_said : (e : List ℕ) (n : Bool) (k : ℕ) → exponent_of e ≡ power n k → Exponent e n k
exponent_said [] n k e =
    let en : false ≡ n = cc in
    let ek : 0 ≡ k = cc in
    subst (λ (m : Bool). Exponent [] m k) en (subst (λ (m : ℕ). Exponent [] false m) ek no_exponent)
exponent_said (b ∷ bs) n k e = go (eqb b 0x65) refl (eqb b 0x45) refl e
  where
    go : (p : Bool) → eqb b 0x65 ≡ p → (q : Bool) → eqb b 0x45 ≡ q
        → pick (either p q) (pick (onlyDigits (unsigned bs)) (power (negative bs) (number_of (digits_of (unsigned bs)))) malformed) malformed ≡ power n k → Exponent (b ∷ bs) n k
    go true f q g e = subst (λ (c : ℕ). Exponent (c ∷ bs) n k) (sym (eqb-true b 0x65 f)) (powered 0x65 bs n k (λ s ds m x y z. small_e s ds x y z) e)
    go false f true g e = subst (λ (c : ℕ). Exponent (c ∷ bs) n k) (sym (eqb-true b 0x45 g)) (powered 0x45 bs n k (λ s ds m x y z. capital_e s ds x y z) e)
    go false f false g e = absurd (let z : ◌≡◌ {A = ℕ} 0 1 = cc in omega arith)

-- ---- the digits and the point
Split : List ℕ → Type 0
Split xs = (m : List ℕ) × Mantissa m (whole_part xs) (fraction_part xs) × (xs ≡ m ++ after_decimal xs)

first_is : (xs : List ℕ) → pointed xs ≡ true → xs ≡ 0x2E ∷ drop 1 xs
unfolding pointed
first_is [] e = absurd (true≢false (sym e))
first_is (x ∷ xs) e = ap (λ (z : ℕ). z ∷ xs) (eqb-true x 0x2E e)

mantissa_said : (xs : List ℕ) → Split xs
unfolding Split whole_part fraction_part after_decimal
mantissa_said xs = go (pointed (after_digits xs)) refl
  where
    go : (t : Bool) → pointed (after_digits xs) ≡ t
        → (m : List ℕ) × Mantissa m (digits_of xs) (pick t (digits_of (drop 1 (after_digits xs))) []) × (xs ≡ m ++ pick t (after_digits (drop 1 (after_digits xs))) (after_digits xs))
    go true e =
        let r = drop 1 (after_digits xs) in (
          digits_of xs ++ (0x2E ∷ digits_of r),
          point (digits_of xs) (digits_of r) (are_digits xs) (are_digits r),
          split xs ∙ ap (λ (z : List ℕ). digits_of xs ++ z) (first_is (after_digits xs) e ∙ ap (λ (z : List ℕ). 0x2E ∷ z) (split r))
              ∙ sym (append_assoc (digits_of xs) (0x2E ∷ digits_of r) (after_digits r)),
        )
    go false e = (digits_of xs, no_point (digits_of xs) (are_digits xs), split xs)

-- ---- the whole text
pub said : (xs : List ℕ) (s : Bool) (d f : ℕ) (below : Bool) (n : ℕ) → number_in xs ≡ decimal s d f below n → Decimal xs (decimal s d f below n)
unfolding number_in unsigned_number decimal_of Signed Split
said xs s d f below n e = whole (is_infinity body) (is_nan body) (eqb (length (whole_part body) + length (fraction_part body)) 0) refl (exponent_of (after_decimal body)) refl e
  where
    body : List ℕ
    body = unsigned xs

    some : (m : ℕ) → (m ≡ 0 → ⊥) → 0 < m
    some m h = omega arith

    whole : (i j t : Bool) → eqb (length (whole_part body) + length (fraction_part body)) 0 ≡ t → (p : Told) → exponent_of (after_decimal body) ≡ p
        → pick i (infinity (negative xs)) (pick j not_a_number (pick t none (with_exponent (negative xs) (number_of (whole_part body ++ fraction_part body)) (length (fraction_part body)) p))) ≡ decimal s d f below n
        → Decimal xs (decimal s d f below n)
    whole true j t c p g e = absurd (let z : ◌≡◌ {A = ℕ} 0 1 = cc in omega arith)
    whole false true t c p g e = absurd (let z : ◌≡◌ {A = ℕ} 0 1 = cc in omega arith)
    whole false false true c p g e = absurd (let z : ◌≡◌ {A = ℕ} 0 1 = cc in omega arith)
    whole false false false c malformed g e = absurd (let z : ◌≡◌ {A = ℕ} 0 1 = cc in omega arith)
    whole false false false c (power m k) g e =
        let t = signed xs in
        let h = mantissa_said body in
        let x : Decimal (t.0 ++ (h.0 ++ after_decimal body)) (decimal (negative xs) (number_of (whole_part body ++ fraction_part body)) (length (fraction_part body)) m k) =
        of t.0 h.0 (after_decimal body) (whole_part body) (fraction_part body) t.1 h.1 (some (length (whole_part body) + length (fraction_part body)) (eqb-false (length (whole_part body) + length (fraction_part body)) 0 c)) (exponent_said (after_decimal body) m k g) in
        subst (λ (z : List ℕ). Decimal z (decimal s d f below n)) (sym (t.2 ∙ ap (λ (z : List ℕ). t.0 ++ z) h.2))
        (subst (λ (z : Number). Decimal (t.0 ++ (h.0 ++ after_decimal body)) z) e x)
