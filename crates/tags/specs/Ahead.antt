-- A tag after which the text goes on ends past `at` and within the text; so do the name and the value of a field.
use Rattle.tags.specs.declared.Tag.TheVariants.{End, Eof, Eoh, Eor, Field}
use Rattle.tags.specs.declared.Tag.{Tag}
use Rattle.refusals.specs.declared.Refusal.{Refusal}
use Rattle.std.specs.Prelude.{ℕ, ◌+◌, ◌≤◌, ◌<◌, List, length, Result, Ok, Err}

abbrev pub Ahead : List ℕ → ℕ → Result Tag Refusal → Type 0
Ahead s at (Ok End) = Unit
Ahead s at (Ok (Eoh next)) = (at < next) × (next ≤ length s)
Ahead s at (Ok (Eor i next)) = (at < next) × (next ≤ length s)
Ahead s at (Ok Eof) = Unit
Ahead s at (Ok (Field i a k v n)) = (at < v + n) × (v + n ≤ length s) × (a + k ≤ length s)
Ahead s at (Err r) = Unit
