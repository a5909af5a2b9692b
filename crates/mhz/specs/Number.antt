-- Rust's grammar of an f64, on a text without white space at its ends: an optional sign, and then one of the words `inf`, `infinity`
-- and `nan`, in either case, or a decimal. A decimal is digits, an optional point and digits, with one digit at least, and an
-- optional exponent: `e` or `E`, an optional sign, one digit at least.
use Rattle.std.specs.Prelude.{ℕ, ◌+◌, Bool, false, List, [], ◌∷◌, ◌++◌, length, get_or, drop, eqb}
use Rattle.text.specs.Pick.{pick, either}
use Rattle.letters.specs.Same.{same_raised}
use Rattle.mhz.specs.Digits.{digits_of, after_digits, number_of}

-- what an exponent says: 10 ^ n, or 10 ^ -n where `minus`
pub data Exponent : Type 0 where
  malformed : Exponent
  power : (minus : Bool) (n : ℕ) → Exponent

-- what a text says. A decimal's digits are taken as one whole number, without the point; `fraction` of them stand after it
pub data Number : Type 0 where
  none : Number
  not_a_number : Number
  infinity : (negative : Bool) → Number
  decimal : (negative : Bool) (digits fraction : ℕ) (minus : Bool) (exponent : ℕ) → Number

-- a sign in front
unfoldable pub negative : List ℕ → Bool
negative xs = eqb (get_or xs 0 0) 0x2D

unfoldable pub unsigned : List ℕ → List ℕ
unsigned xs = drop (pick (either (eqb (get_or xs 0 0) 0x2B) (eqb (get_or xs 0 0) 0x2D)) 1 0) xs

-- a point in front
unfoldable pub pointed : List ℕ → Bool
pointed xs = eqb (get_or xs 0 0) 0x2E

-- the digits before the point, those after it, and what follows them
unfoldable pub whole_part : List ℕ → List ℕ
whole_part xs = digits_of xs

unfoldable pub fraction_part : List ℕ → List ℕ
fraction_part xs = pick (pointed (after_digits xs)) (digits_of (drop 1 (after_digits xs))) []

unfoldable pub after_decimal : List ℕ → List ℕ
after_decimal xs = pick (pointed (after_digits xs)) (after_digits (drop 1 (after_digits xs))) (after_digits xs)

-- one digit at least and nothing else
unfoldable pub all_digits : List ℕ → Bool
all_digits xs = pick (eqb (length (digits_of xs)) 0) false (eqb (length (after_digits xs)) 0)

-- the exponent in what follows a decimal; where nothing follows it is 0
abbrev pub exponent_of : List ℕ → Exponent
exponent_of [] = power false 0
exponent_of (b ∷ bs) = pick (either (eqb b 0x65) (eqb b 0x45)) (pick (all_digits (unsigned bs)) (power (negative bs) (number_of (digits_of (unsigned bs)))) malformed) malformed

abbrev pub with_exponent : Bool → ℕ → ℕ → Exponent → Number
with_exponent s digits fraction malformed = none
with_exponent s digits fraction (power minus n) = decimal s digits fraction minus n

unfoldable pub decimal_of : Bool → List ℕ → Number
decimal_of s xs =
    pick (eqb (length (whole_part xs) + length (fraction_part xs)) 0) none
    (with_exponent s (number_of (whole_part xs ++ fraction_part xs)) (length (fraction_part xs)) (exponent_of (after_decimal xs)))

-- `INF`, `INFINITY`, `NAN`
unfoldable pub is_infinity : List ℕ → Bool
is_infinity xs = either (same_raised xs (0x49 ∷ 0x4E ∷ 0x46 ∷ [])) (same_raised xs (0x49 ∷ 0x4E ∷ 0x46 ∷ 0x49 ∷ 0x4E ∷ 0x49 ∷ 0x54 ∷ 0x59 ∷ []))

unfoldable pub is_nan : List ℕ → Bool
is_nan xs = same_raised xs (0x4E ∷ 0x41 ∷ 0x4E ∷ [])

-- what follows the sign, and the whole text
unfoldable pub unsigned_number : Bool → List ℕ → Number
unsigned_number s xs = pick (is_infinity xs) (infinity s) (pick (is_nan xs) not_a_number (decimal_of s xs))

unfoldable pub number_in : List ℕ → Number
number_in xs = unsigned_number (negative xs) (unsigned xs)
