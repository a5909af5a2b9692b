-- Whole hertz of a number of megahertz, and megahertz with six decimals of a number.
use Rattle.std.specs.Prelude.{ℕ, ◌+◌, ◌-◌, ◌*◌, ◌/◌, ◌^◌, min, Bool, false, cond, pos, Float}
use Rattle.std.specs.Float.{nan, inf, fin, binary64}
use Rattle.std.specs.Float.Ieee.{up, down, mul, lt}
use Rattle.std.specs.Float.Ieee.Nearest.{closest}

abbrev pub zero : Float
zero = fin false 0 (pos 0)

-- 1,000,000.0
abbrev pub million : Float
million = fin false 15625 (pos 6)

-- Rust's `x.round() as u64`: the nearest whole number, a half away from zero; at the nearest end of the range where it is out of it; 0 for NaN
unfoldable pub rounded : Float → ℕ
rounded nan = 0
rounded (inf negative) = cond negative 0 (2 ^ 64 - 1)
rounded (fin negative m e) = cond negative 0 (min ((2 * (m * up e) + down e) / (2 * down e)) (2 ^ 64 - 1))

-- Rust's `(v * 1_000_000.0).round() as u64`
unfoldable pub to_hz : Float → ℕ
unfolding rounded
to_hz v = rounded (mul binary64 v million)

-- v is below zero; minus zero and NaN are not
unfoldable pub below_zero : Float → Bool
below_zero v = lt v zero

-- Rust's `{:.6}` of a finite v that is not below zero, as a number of millionths: the nearest to v, at a tie the even one
unfoldable pub millionths : Float → ℕ
millionths nan = 0
millionths (inf negative) = 0
millionths (fin negative m e) = closest (m * up e * 1000000) (down e)
