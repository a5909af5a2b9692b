-- A number written in decimal.
use Rattle.std.specs.Prelude.{ℕ, zero, suc, ◌+◌, ◌/◌, ◌%◌, List, [], ◌∷◌, ◌++◌, ltb}
use Rattle.text.specs.Pick.{pick}

-- the decimal digits of n, at most k of them
unfoldable pub digits : ℕ → ℕ → List ℕ
digits zero n = []
digits (suc k) n = pick (ltb n 10) ((0x30 + n) ∷ []) (digits k (n / 10) ++ ((0x30 + n % 10) ∷ []))

-- 20 are enough for 64 bits
unfoldable pub decimal : ℕ → List ℕ
decimal n = digits 20 n
