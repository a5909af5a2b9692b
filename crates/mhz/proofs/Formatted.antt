-- Below the bound at which a frequency is refused, what is written is what the Rust's `{:.6}` prints of the binary64 quotient.
-- Assumes nothing.
use mathlib.Core.Path.{◌≡◌, sym, ap}
use Prim.Native.Nat.{ℕ, ◌<◌}
use Rattle.hertz.proofs.Written.{written}
use Rattle.mhz.specs.Writing.{six_decimals, mhz_text, formatted}

pub formatted_is : (hz : ℕ) → hz < 8589934592000000 → mhz_text hz ≡ formatted hz
unfolding formatted
formatted_is hz h = ap six_decimals (sym (written hz h))
