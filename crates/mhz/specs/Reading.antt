-- Whole hertz of a text that says megahertz.
use Rattle.std.specs.Prelude.{ℕ, ◌+◌, Bool, List, eqb, leb, Float}
use Rattle.std.specs.Float.{nan, inf}
use Rattle.text.specs.Pick.{pick, both, either}
use Rattle.text.specs.Space.{trimmed}
use Rattle.hertz.specs.Value.{parsed, signed}
use Rattle.hertz.specs.Whole.{to_hz, below_zero}
use Rattle.mhz.specs.Number.{Number, none, not_a_number, infinity, decimal, number_in}
use Rattle.mhz.specs.declared.Hz.{Hz}
use Rattle.mhz.specs.declared.Hz.TheVariants.{Absent, Is, Outside}

-- 10 ^ up / 10 ^ down is the power of ten by which the digits are to be multiplied: ten to the exponent, less the fraction digits
unfoldable pub up : Bool → ℕ → ℕ
up minus exponent = pick minus 0 exponent

unfoldable pub down : ℕ → Bool → ℕ → ℕ
down fraction minus exponent = fraction + pick minus exponent 0

-- up less down is from -22 to 22
unfoldable pub near : ℕ → ℕ → Bool
near u d = both (leb u (d + 22)) (leb d (u + 22))

-- the exact window; zero digits are inside at every exponent
unfoldable pub in_window : ℕ → ℕ → Bool → ℕ → Bool
in_window digits fraction minus exponent =
    either (eqb digits 0)
    (both (leb digits 9007199254740992) (both (leb exponent 65535) (near (up minus exponent) (down fraction minus exponent))))

-- a parsed value below zero is absent
unfoldable pub hertz_of : Float → Hz
hertz_of v = pick (below_zero v) Absent (Is (to_hz v))

unfoldable pub decimal_hertz : Bool → ℕ → ℕ → Bool → ℕ → Hz
decimal_hertz s digits fraction minus exponent =
    pick (in_window digits fraction minus exponent)
    (hertz_of (signed s (parsed digits (up minus exponent) (down fraction minus exponent))))
    Outside

-- a text that is no number is absent; a number outside the window is `Outside`, refusal 15
abbrev pub number_hertz : Number → Hz
number_hertz none = Absent
number_hertz not_a_number = hertz_of nan
number_hertz (infinity s) = hertz_of (inf s)
number_hertz (decimal s digits fraction minus exponent) = decimal_hertz s digits fraction minus exponent

unfoldable pub read_hertz : List ℕ → Hz
read_hertz text = number_hertz (number_in (trimmed text))
