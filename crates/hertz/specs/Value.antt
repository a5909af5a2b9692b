-- The binary64 number that a decimal is read as: the nearest to the decimal's exact value (`lib.Ieee` has IEEE 754's rounding, ties to even).
use Rattle.std.specs.Prelude.{ℕ, ◌*◌, ◌^◌, Bool, false, cond, pos, Float}
use Rattle.std.specs.Float.{fin, binary64}
use Rattle.std.specs.Float.Ieee.{round, neg}

-- 10 ^ k, which binary64 holds exactly for a k up to 22: it is 5 ^ k * 2 ^ k
abbrev pub ten_to : ℕ → Float
ten_to k = fin false (5 ^ k) (pos k)

-- the binary64 nearest to digits * 10 ^ up / 10 ^ down
unfoldable pub parsed : ℕ → ℕ → ℕ → Float
parsed digits up down = round binary64 false (digits * 10 ^ up) (10 ^ down)

-- that value with its sign
unfoldable pub signed : Bool → Float → Float
signed negative v = cond negative (neg v) v
