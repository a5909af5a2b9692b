-- A number that is written in decimal reads back. Assumes nothing.
use Rattle.std.specs.Prelude.{Some}
use mathlib.Core.Path.{◌≡◌, refl, sym, ap, ◌∙◌, subst}
use mathlib.Core.Bool.{Bool, true, false}
use mathlib.Core.List.{List, [], ◌∷◌, ◌++◌}
use Prim.Native.Nat.{ℕ, zero, suc, ◌+◌, ◌-◌, ◌*◌, ◌/◌, ◌%◌, ◌^◌, ◌≤◌, ◌<◌}
use native.Mathlib.Nat.{pow-suc, div-lt_iff_lt-mul}
use native.Mathlib.Omega.{arith}
use lib.ListN.{length}
use lib.Dec.{ltb, lit<}
use borrow.Author.Tests.{ltb-true, lt-ltb, le-leb, ne_eqb}
use Rattle.text.specs.Pick.{pick}
use Rattle.text.proofs.AppendLaws.{Ascii}
use Rattle.decimal.specs.Decimal.{all_digits, number, digits_after, digits_of, leads, unsigned_of}
use Rattle.decimal.specs.Digits.{digits, decimal}

-- every byte is a digit
abbrev pub Digits : List ℕ → Type 0
Digits [] = Unit {0}
Digits (x ∷ xs) = ((0x30 ≤ x) × (x ≤ 0x39)) × Digits xs

pub digits_append : (xs ys : List ℕ) → Digits xs → Digits ys → Digits (xs ++ ys)
digits_append [] ys p q = q
digits_append (x ∷ xs) ys p q = (p.0, digits_append xs ys p.1 q)

pub number_append : (a : ℕ) (xs ys : List ℕ) → number a (xs ++ ys) ≡ number (number a xs) ys
number_append a [] ys = refl
number_append a (d ∷ xs) ys = number_append (a * 10 + (d - 48)) xs ys

pub all_digits_lem : (xs : List ℕ) → Digits xs → all_digits xs ≡ true
all_digits_lem [] p = refl
all_digits_lem (x ∷ xs) p = simp (le-leb 0x30 x p.0.0, le-leb x 0x39 p.0.1) (all_digits_lem xs p.1)

pub are_digits : (k n : ℕ) → Digits (digits k n)
unfolding digits
are_digits zero n = tt
are_digits (suc k) n = by (ltb n 10) refl (are_digits k (n / 10))
  where
    by : (t : Bool) → ltb n 10 ≡ t → Digits (digits k (n / 10)) → Digits (pick t ((0x30 + n) ∷ []) (digits k (n / 10) ++ ((0x30 + n % 10) ∷ [])))
    by true e i = ((omega arith, omega (arith, ltb-true n 10 e)), tt)
    by false e i = digits_append (digits k (n / 10)) _ i ((omega arith, omega arith), tt)

pub digits_ascii : (xs : List ℕ) → Digits xs → Ascii xs
digits_ascii [] d = tt
digits_ascii (x ∷ xs) d = (omega (arith, d.0.1), digits_ascii xs d.1)

pub number_is : (k n : ℕ) → n < 10 ^ k → number 0 (digits k n) ≡ n
unfolding digits
number_is zero n h = omega arith
number_is (suc k) n h = by (ltb n 10) (number_is k (n / 10) ((div-lt_iff_lt-mul (lit< tt)).1 (subst (λ (z : ℕ). n < z) (pow-suc 10 k) h)))
  where
    by : (t : Bool) → number 0 (digits k (n / 10)) ≡ n / 10 → number 0 (pick t ((0x30 + n) ∷ []) (digits k (n / 10) ++ ((0x30 + n % 10) ∷ []))) ≡ n
    by true i = omega arith
    by false i = number_append 0 (digits k (n / 10)) ((0x30 + n % 10) ∷ []) ∙ rw i (omega arith)

pub some_digit : (k n : ℕ) → 0 < length (digits (suc k) n)
unfolding digits
some_digit k n = by (ltb n 10) (digits k (n / 10))
  where
    by : (t : Bool) (xs : List ℕ) → 0 < length (pick t ((0x30 + n) ∷ []) (xs ++ ((0x30 + n % 10) ∷ [])))
    by true xs = omega arith
    by false [] = omega arith
    by false (x ∷ xs) = omega arith

-- digits lead with no sign
no_sign : (b : ℕ) (xs : List ℕ) → b < 0x30 → 0 < length xs → Digits xs → leads b xs ≡ false
unfolding leads
no_sign b [] h l d = absurd (omega arith)
no_sign b (x ∷ xs) h l d = ne_eqb x b (λ e. omega (arith, d.0.0))

pub read_back_lem : (n : ℕ) → n < 2 ^ 64 → unsigned_of (decimal n) ≡ Some n
unfolding decimal unsigned_of digits_of digits_after
read_back_lem n h =
    simp
    (no_sign 0x2B (digits 20 n) (omega arith) (some_digit 19 n) (are_digits 20 n), ne_eqb (length (digits 20 n)) 0 (λ e. omega (arith, some_digit 19 n)), all_digits_lem (digits 20 n) (are_digits 20 n), number_is 20 n (omega arith), lt-ltb n (2 ^ 64) h)

-- so no two numbers are written alike
pub decimal_once : (m n : ℕ) → m < 2 ^ 64 → n < 2 ^ 64 → decimal m ≡ decimal n → m ≡ n
decimal_once m n p q e =
    let r : Some m ≡ Some n = sym (read_back_lem m p) ∙ ap unsigned_of e ∙ read_back_lem n q in
    cc
