-- A record's row of which fate and reason are kept, and the rest is zero.
use Rattle.std.specs.Prelude.{ℕ, List, ◌∷◌, map, get_or, take, replicate}
use Rattle.entries.specs.Row.{Row}

abbrev pub fate_row : ℕ → ℕ → Row
fate_row fate reason = fate ∷ reason ∷ replicate 26 0

abbrev pub kept_row : Row → Row
kept_row r = fate_row (get_or r 0 0) (get_or r 1 0)

-- the first n rows
abbrev pub kept_rows : List Row → ℕ → List Row
kept_rows rows n = map kept_row (take n rows)
