-- Two moments are within a window, a signed number of seconds, if the size of their difference is at most the window.
use Rattle.std.specs.Prelude.{ℕ, ◌+◌, ◌-◌, Bool, false, leb, ℤ, pos, negsuc, Option, Some, None}

-- the size of the difference
unfoldable pub apart : ℕ → ℕ → ℕ
apart a b = (a - b) + (b - a)

-- a window below zero holds nothing
unfoldable pub reaches : ℤ → ℕ → Bool
reaches (pos n) d = leb d n
reaches (negsuc n) d = false

unfoldable pub is_within : Option ℕ → Option ℕ → ℤ → Bool
is_within None b w = false
is_within (Some x) None w = false
is_within (Some x) (Some y) w = reaches w (apart x y)

-- one more than the window, and 0 where it is below zero
unfoldable pub limit_of : ℤ → ℕ
limit_of (pos n) = n + 1
limit_of (negsuc n) = 0
