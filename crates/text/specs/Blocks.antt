-- What the parts of a pass over a text say of it.
use Rattle.std.specs.Prelude.{◌≡◌, List, ℕ, ◌≤◌, ◌<◌, length, get_or, drop}
use Rattle.text.specs.Walk.{ends}
use Rattle.text.specs.Utf8.{char_len}

-- from `from` the walk over characters has come to r: past `to`, or to a place before it where no character begins
pub record Passed (s : List ℕ) (from to r : ℕ) : Type 0 where
  pub forward : from ≤ r
  pub inside : r ≤ length s
  pub same : ends char_len s r ≡ ends char_len s from
  pub stopped : r < to → char_len (drop r s) ≡ 0

-- no byte is above t
unfoldable pub UpTo : List ℕ → ℕ → Type 0
UpTo xs t = (k : ℕ) → k < length xs → get_or xs k 0 ≤ t
