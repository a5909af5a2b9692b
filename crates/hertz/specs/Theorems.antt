-- What is proved of binary64 over whole numbers.
use Rattle.std.specs.Prelude.{◌≡◌, ℕ, ◌^◌, ◌≤◌}
use Rattle.hertz.specs.Value.{parsed}
use Rattle.hertz.specs.Whole.{to_hz}

-- n hertz as megahertz, the quotient by 10 ^ 6 rounded to binary64, and back, the product by 10 ^ 6 rounded to binary64 and then to the
-- nearest whole number
abbrev pub ThereAndBack : Type 0
ThereAndBack = (n : ℕ) → n ≤ 10 ^ 12 → to_hz (parsed n 0 6) ≡ n
