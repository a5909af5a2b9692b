-- What the steps of the reading give, for their promises: digits are held only up to a bound, so that any number of them fits.
use Rattle.std.specs.Prelude.{Option, Some, None, ℕ, ◌+◌, ◌-◌, ◌*◌, Bool, false, List, [], ◌∷◌, leb, eqb}
use Rattle.std.specs.Float.{nan, inf}
use Rattle.text.specs.Pick.{pick, either}
use Rattle.hertz.specs.Value.{parsed, signed}
use Rattle.mhz.specs.Digits.{digits_of}
use Rattle.mhz.specs.Number.{all_digits, unsigned, negative, is_infinity, is_nan}
use Rattle.mhz.specs.Reading.{near, hertz_of}
use Rattle.mhz.specs.declared.Hz.{Hz}
use Rattle.mhz.specs.declared.Hz.TheVariants.{Absent, Outside}
use Rattle.mhz.specs.declared.number.Power.{Power}

-- the digit b after those that stand for n, while n is at most `most`
unfoldable pub grown : ℕ → ℕ → ℕ → ℕ
grown most n b = pick (leb n most) (n * 10 + (b - 0x30)) n

-- the number that the digits stand for where it is at most `most`, and else one above `most`
abbrev pub held : ℕ → ℕ → List ℕ → ℕ
held most n [] = n
held most n (d ∷ ds) = held most (grown most n d) ds

unfoldable pub power_held : Bool → List ℕ → Option Power
power_held minus xs = pick (all_digits xs) (Some (record { minus = minus; size = held 65535 0 (digits_of xs) })) None

abbrev pub exponent_held : List ℕ → Option Power
exponent_held [] = Some (record { minus = false; size = 0 })
exponent_held (b ∷ bs) = pick (either (eqb b 0x65) (eqb b 0x45)) (power_held (negative bs) (unsigned bs)) None

unfoldable pub scaled_hertz : Bool → ℕ → ℕ → ℕ → Hz
scaled_hertz s digits u d = pick (near u d) (hertz_of (signed s (parsed digits u d))) Outside

unfoldable pub word_hertz : Bool → List ℕ → Hz
word_hertz s xs = pick (is_infinity xs) (hertz_of (inf s)) (pick (is_nan xs) (hertz_of nan) Absent)
