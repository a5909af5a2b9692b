-- The steps of the check of a QSO's extra rows.
use Rattle.std.specs.Prelude.{ℕ, ◌+◌, Bool, false, List, [], ◌∷◌, get_or}
use Rattle.text.specs.Pick.{pick, either}
use Rattle.letters.specs.Capitals.{capitals}
use Rattle.letters.specs.Same.{same}
use Rattle.rowcheck.specs.Check.{Row}
use Rattle.cells.specs.Cells.{is_dropped}
use Rattle.cells.specs.declared.Cell.{Cell}

-- a column that is written has that name
abbrev pub taken_by : List (List ℕ) → List Cell → List ℕ → Bool
taken_by [] cells name = false
taken_by (n ∷ ns) [] name = false
taken_by (n ∷ ns) (c ∷ cs) name = pick (is_dropped c) (taken_by ns cs name) (either (same n (capitals name)) (taken_by ns cs name))

-- how many columns are written
abbrev pub written_count : List Cell → ℕ
written_count [] = 0
written_count (c ∷ cs) = pick (is_dropped c) 0 1 + written_count cs

-- an extra row as a row of record 1
abbrev pub as_first : Row → Row
as_first r = 1 ∷ get_or r 1 0 ∷ get_or r 2 0 ∷ get_or r 3 0 ∷ get_or r 4 0 ∷ []
