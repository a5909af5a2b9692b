-- Which texts are whole numbers, and which: digits that fit 64 bits, with or without a plus before them; and with a sign.
use Rattle.decimal.specs.declared.Signed.{Signed}
use Rattle.std.specs.Prelude.{ℕ, ◌+◌, ◌-◌, ◌*◌, ◌^◌, Bool, true, false, List, [], ◌∷◌, length, get_or, drop, leb, ltb, eqb, Option, Some, None}
use Rattle.text.specs.Pick.{pick, both, within}

abbrev pub all_digits : List ℕ → Bool
all_digits [] = true
all_digits (d ∷ ds) = both (within d 0x30 0x39) (all_digits ds)

-- the number of the digits, after the number n
abbrev pub number : ℕ → List ℕ → ℕ
number n [] = n
number n (d ∷ ds) = number (n * 10 + (d - 0x30)) ds

unfoldable pub digits_after : ℕ → List ℕ → Option ℕ
digits_after n ds = pick (both (all_digits ds) (ltb (number n ds) (2 ^ 64))) (Some (number n ds)) None

-- digits, at least one, whose number is below 2^64
unfoldable pub digits_of : List ℕ → Option ℕ
digits_of ds = pick (eqb (length ds) 0) None (digits_after 0 ds)

-- the byte at the front is b
unfoldable pub leads : ℕ → List ℕ → Bool
leads b xs = eqb (get_or xs 0 0) b

-- with or without a plus
unfoldable pub unsigned_of : List ℕ → Option ℕ
unsigned_of xs = pick (leads 0x2B xs) (digits_of (drop 1 xs)) (digits_of xs)

-- a number up to 2^63 - 1, and one after a minus, down to -2^63; minus zero is zero
unfoldable pub above_zero : Option ℕ → Option Signed
above_zero (Some n) = pick (ltb n (2 ^ 63)) (Some (record { negative = false; size = n })) None
above_zero None = None

unfoldable pub below_zero : Option ℕ → Option Signed
below_zero (Some n) = pick (leb n (2 ^ 63)) (Some (record { negative = ltb 0 n; size = n })) None
below_zero None = None

unfoldable pub signed_of : List ℕ → Option Signed
signed_of xs = pick (leads 0x2D xs) (below_zero (digits_of (drop 1 xs))) (above_zero (unsigned_of xs))
