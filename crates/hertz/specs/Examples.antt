-- Worked examples.
use Rattle.std.specs.Prelude.{◌≡◌, refl, true, false, negsuc}
use Rattle.std.specs.Float.{nan, inf, fin}
use Rattle.std.specs.Float.Ieee.{round, mul, neg, lt}
use Rattle.hertz.specs.Value.{parsed, signed}
use Rattle.hertz.specs.Whole.{to_hz, below_zero, millionths, rounded}

-- 14.074 MHz
plain : to_hz (parsed 14074 0 3) ≡ 14074000
unfolding parsed to_hz round mul rounded
plain = refl

-- 0.0000025 MHz: a half goes up
half : to_hz (parsed 25 0 7) ≡ 3
unfolding parsed to_hz round mul rounded
half = refl

-- 1e14 MHz: the largest number of 64 bits
huge : to_hz (parsed 1 14 0) ≡ 18446744073709551615
unfolding parsed to_hz round mul rounded
huge = refl

infinity : to_hz (inf false) ≡ 18446744073709551615
unfolding to_hz mul rounded
infinity = refl

not_a_number : to_hz nan ≡ 0
unfolding to_hz mul rounded
not_a_number = refl

-- -0.1 is below zero, minus zero is not
minus : below_zero (signed true (parsed 1 0 1)) ≡ true
unfolding parsed signed round neg below_zero lt
minus = refl

minus_zero : below_zero (signed true (parsed 0 0 0)) ≡ false
unfolding parsed signed round neg below_zero lt
minus_zero = refl

-- a quarter is 250,000 millionths
quarter : millionths (fin false 1 (negsuc 1)) ≡ 250000
unfolding millionths
quarter = refl
