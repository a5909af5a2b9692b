-- What is known of a number that was read.
use Rattle.std.specs.Prelude.{ℕ, ◌<◌, Option, Some, None}

abbrev pub Below : ℕ → Option ℕ → Type 0
Below b (Some n) = n < b
Below b None = Unit
