-- Decimal digits: those at the front of a text, the number that they stand for, and the last ones of a number.
use Rattle.std.specs.Prelude.{ℕ, zero, suc, ◌+◌, ◌/◌, ◌%◌, Bool, List, [], ◌∷◌, ◌++◌}
use Rattle.text.specs.Pick.{pick, within}
use Rattle.decimal.specs.Decimal.{number}

-- 0 to 9
abbrev pub is_digit : ℕ → Bool
is_digit b = within b 0x30 0x39

-- the digits at the front, and what comes after them
abbrev pub digits_of : List ℕ → List ℕ
digits_of [] = []
digits_of (b ∷ bs) = pick (is_digit b) (b ∷ digits_of bs) []

abbrev pub after_digits : List ℕ → List ℕ
after_digits [] = []
after_digits (b ∷ bs) = pick (is_digit b) (after_digits bs) (b ∷ bs)

-- the number that digits stand for
unfoldable pub number_of : List ℕ → ℕ
number_of ds = number 0 ds

-- the last k digits of n, the first of them in front
abbrev pub last_digits : ℕ → ℕ → List ℕ
last_digits zero n = []
last_digits (suc k) n = last_digits k (n / 10) ++ ((0x30 + n % 10) ∷ [])
