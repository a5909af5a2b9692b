-- Worked examples: those of docs/SCOPE.md, and the edges of the grammar and of the window. A text is a list of ASCII codes.
use Rattle.refusals.specs.declared.Refusal.TheVariants.{FrequencyTooHigh}
use Rattle.refusals.specs.declared.Refusal.TheVariants.{ShortOutput}
use Rattle.std.specs.Prelude.{◌≡◌, refl, true, false, [], ◌∷◌, Ok, Err}
use Rattle.std.specs.Float.Ieee.{round, mul, neg, lt}
use Rattle.text.specs.Walk.{lead}
use Rattle.text.specs.Space.{space1, space2, space3, space80, space_len, space_back, width, trim_start, trim_end, trimmed}
use Rattle.letters.specs.Capitals.{raised}
use Rattle.letters.specs.Same.{same_raised}
use Rattle.hertz.specs.Value.{parsed, signed}
use Rattle.hertz.specs.Whole.{to_hz, below_zero, rounded}
use Rattle.decimal.specs.Digits.{digits, decimal as ten-digits}
use Rattle.mhz.specs.Digits.{number_of}
use Rattle.mhz.specs.Number.{none, not_a_number, infinity, decimal, negative, unsigned, pointed, whole_part, fraction_part, after_decimal, all_digits, decimal_of, is_infinity, is_nan, unsigned_number, number_in}
use Rattle.mhz.specs.Reading.{up, down, near, in_window, hertz_of, decimal_hertz, number_hertz, read_hertz}
use Rattle.mhz.specs.Writing.{six_decimals, mhz_text, answer_to}
use Rattle.mhz.specs.declared.Hz.TheVariants.{Absent, Is, Outside}

-- ---- the grammar
-- "+.5e-3": the digits 5, one of them after the point, times 10 ^ -3
signs : number_in (43 ∷ 46 ∷ 53 ∷ 101 ∷ 45 ∷ 51 ∷ []) ≡ decimal false 5 1 true 3
unfolding number_in unsigned_number is_infinity is_nan same_raised raised decimal_of whole_part fraction_part after_decimal pointed unsigned negative all_digits number_of
signs = refl

-- "-07.150": seven thousand one hundred and fifty, three of the digits after the point
plain : number_in (45 ∷ 48 ∷ 55 ∷ 46 ∷ 49 ∷ 53 ∷ 48 ∷ []) ≡ decimal true 7150 3 false 0
unfolding number_in unsigned_number is_infinity is_nan same_raised raised decimal_of whole_part fraction_part after_decimal pointed unsigned negative all_digits number_of
plain = refl

-- "-Inf", "nAn"
words : (number_in (45 ∷ 73 ∷ 110 ∷ 102 ∷ []) ≡ infinity true) × (number_in (110 ∷ 65 ∷ 110 ∷ []) ≡ not_a_number)
unfolding number_in unsigned_number is_infinity is_nan same_raised raised unsigned negative
words = (refl, refl)

-- ".", "1e", "1e+", "e5", "1.2.3" and the empty text say no number
no_numbers : (number_in (46 ∷ []) ≡ none) × (number_in (49 ∷ 101 ∷ []) ≡ none) × (number_in (49 ∷ 101 ∷ 43 ∷ []) ≡ none) × (number_in (101 ∷ 53 ∷ []) ≡ none)
    × (number_in (49 ∷ 46 ∷ 50 ∷ 46 ∷ 51 ∷ []) ≡ none) × (number_in [] ≡ none)
unfolding number_in unsigned_number is_infinity is_nan same_raised raised decimal_of whole_part fraction_part after_decimal pointed unsigned negative all_digits number_of
no_numbers = (refl, refl, refl, refl, refl, refl)

-- ---- the window
-- 9007199254740992 is inside, 9007199254740993 is not; 10 ^ 22 and 10 ^ -22 are, one step further is not; zero is inside at any exponent
ends : (in_window 9007199254740992 0 false 0 ≡ true) × (in_window 9007199254740993 0 false 0 ≡ false) × (in_window 1 0 false 22 ≡ true) × (in_window 1 0 false 23 ≡ false)
    × (in_window 1 0 true 22 ≡ true) × (in_window 1 1 true 22 ≡ false) × (in_window 1 65557 false 65535 ≡ true) × (in_window 1 65558 false 65536 ≡ false)
    × (in_window 0 0 true 99999999999 ≡ true)
unfolding in_window near up down
ends = (refl, refl, refl, refl, refl, refl, refl, refl, refl)

-- ---- the whole reading
-- "14.074"
megahertz : read_hertz (49 ∷ 52 ∷ 46 ∷ 48 ∷ 55 ∷ 52 ∷ []) ≡ Is 14074000
unfolding read_hertz trimmed trim_start trim_end space_len space_back width space1 space2 space3 space80 lead number_in unsigned_number is_infinity is_nan same_raised raised decimal_of whole_part fraction_part after_decimal pointed unsigned negative all_digits number_of decimal_hertz in_window near up down hertz_of signed parsed below_zero to_hz round mul lt rounded
megahertz = refl

-- "-0.1" is absent, "nan" is 0, "1e14" the largest number
minus : number_hertz (decimal true 1 1 false 0) ≡ Absent
unfolding decimal_hertz in_window near up down hertz_of signed parsed below_zero to_hz round mul neg lt rounded
minus = refl

nan_is_zero : number_hertz not_a_number ≡ Is 0
unfolding hertz_of below_zero to_hz mul lt rounded
nan_is_zero = refl

largest : number_hertz (decimal false 1 0 false 14) ≡ Is 18446744073709551615
unfolding decimal_hertz in_window near up down hertz_of signed parsed below_zero to_hz round mul neg lt rounded
largest = refl

infinities : (number_hertz (infinity false) ≡ Is 18446744073709551615) × (number_hertz (infinity true) ≡ Absent)
unfolding hertz_of below_zero to_hz mul lt rounded
infinities = (refl, refl)

-- "9007199254740993"
outside : number_hertz (decimal false 9007199254740993 0 false 0) ≡ Outside
unfolding decimal_hertz in_window
outside = refl

-- ---- writing
-- 14074000 Hz is "14.074000", 5 Hz is "0.000005"
written : (mhz_text 14074000 ≡ 49 ∷ 52 ∷ 46 ∷ 48 ∷ 55 ∷ 52 ∷ 48 ∷ 48 ∷ 48 ∷ []) × (mhz_text 5 ≡ 48 ∷ 46 ∷ 48 ∷ 48 ∷ 48 ∷ 48 ∷ 48 ∷ 53 ∷ [])
unfolding six_decimals ten-digits digits
written = (refl, refl)

-- refused with 14 at the bound, with 13 where a byte is missing
refused : (answer_to 8589934592000000 0 [] ≡ Err FrequencyTooHigh) × (answer_to 5 1 (0 ∷ 0 ∷ 0 ∷ 0 ∷ 0 ∷ 0 ∷ 0 ∷ 0 ∷ []) ≡ Err ShortOutput) × (answer_to 5 0 (0 ∷ 0 ∷ 0 ∷ 0 ∷ 0 ∷ 0 ∷ 0 ∷ 0 ∷ []) ≡ Ok 8)
unfolding answer_to six_decimals ten-digits digits
refused = (refl, refl, refl)

-- ---- there and back
-- 4,294,967,296,000,010 Hz, which is 2 ^ 32 MHz and 10 Hz, is read as it was written; the next is not, and no theorem can reach so far
drifts : (read_hertz (mhz_text 4294967296000010) ≡ Is 4294967296000010) × (read_hertz (mhz_text 4294967296000011) ≡ Is 4294967296000012)
unfolding read_hertz trimmed trim_start trim_end space_len space_back width space1 space2 space3 space80 lead number_in unsigned_number is_infinity is_nan same_raised raised decimal_of whole_part fraction_part after_decimal pointed unsigned negative all_digits number_of decimal_hertz in_window near up down hertz_of signed parsed below_zero to_hz round mul lt rounded six_decimals ten-digits digits
drifts = (refl, refl)
