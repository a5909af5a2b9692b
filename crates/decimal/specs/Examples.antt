-- Worked examples.
use Rattle.std.specs.Prelude.{◌≡◌, refl, true, false, [], ◌∷◌, Some, None}
use Rattle.decimal.specs.Decimal.{digits_after, digits_of, leads, unsigned_of, above_zero, below_zero, signed_of}
use Rattle.decimal.specs.Digits.{digits, decimal}

-- "+02"
plus : unsigned_of (43 ∷ 48 ∷ 50 ∷ []) ≡ Some 2
unfolding unsigned_of leads digits_of digits_after
plus = refl

-- "+" alone, and nothing at all
plus_alone : unsigned_of (43 ∷ []) ≡ None
unfolding unsigned_of leads digits_of digits_after
plus_alone = refl

nothing : unsigned_of [] ≡ None
unfolding unsigned_of leads digits_of digits_after
nothing = refl

-- "-7" and "-0"
minus : signed_of (45 ∷ 55 ∷ []) ≡ Some (record { negative = true; size = 7 })
unfolding signed_of unsigned_of leads digits_of digits_after above_zero below_zero
minus = refl

minus_zero : signed_of (45 ∷ 48 ∷ []) ≡ Some (record { negative = false; size = 0 })
unfolding signed_of unsigned_of leads digits_of digits_after above_zero below_zero
minus_zero = refl

-- "-+7"
two_signs : signed_of (45 ∷ 43 ∷ 55 ∷ []) ≡ None
unfolding signed_of unsigned_of leads digits_of digits_after above_zero below_zero
two_signs = refl

-- 0, 10 and 207
zero_written : decimal 0 ≡ 48 ∷ []
unfolding decimal digits
zero_written = refl

ten_written : decimal 10 ≡ 49 ∷ 48 ∷ []
unfolding decimal digits
ten_written = refl

three_digits : decimal 207 ≡ 50 ∷ 48 ∷ 55 ∷ []
unfolding decimal digits
three_digits = refl
