-- The rows of the record in hand as they stand in an array, and in the lent table.
use Rattle.std.specs.Prelude.{◌≡◌, List, [], ◌∷◌, ◌++◌, ℕ, suc, ◌≤◌, ◌<◌, leb, length, get_or, take, drop, Option, Some, None, Result, Ok, Err}
use Rattle.text.specs.Pick.{pick}
use Rattle.adif.specs.Records.{put}
use Rattle.adif.specs.Reading.{Row, row_name}

-- the row between two others, and for another
abbrev pub put_in : ℕ → Row → List Row → List Row
put_in at r xs = take at xs ++ (r ∷ drop at xs)

abbrev pub put_for : ℕ → Row → List Row → List Row
put_for at r xs = take at xs ++ (r ∷ drop (suc at) xs)

-- where a row of that name goes into the rows xs: in place of the row that has the name, or between two
unfoldable pub Placed : List ℕ → List Row → List ℕ → Result ℕ ℕ → Type 0
Placed text xs name (Ok at) = (at < length xs) × ((r : Row) → row_name text r ≡ name → put (row_name text) r xs ≡ put_for at r xs)
Placed text xs name (Err at) = (at ≤ length xs) × ((r : Row) → row_name text r ≡ name → put (row_name text) r xs ≡ put_in at r xs)

-- the count of the rows, where there is room for them
abbrev pub kept_of : ℕ → ℕ → Option ℕ
kept_of room n = pick (leb n room) (Some n) None

pub record Inserted (k : Option ℕ) (want : List Row) (rows : List Row) : Type 0 where
  pub kept : k ≡ kept_of (length rows) (length want)
  pub moved : length want ≤ length rows → take (length want) rows ≡ want

-- a row of the table: the record's number, and the row's four; and the rows of a record, one after the other
abbrev pub numbered : ℕ → Row → List ℕ
numbered n r = n ∷ get_or r 0 0 ∷ get_or r 1 0 ∷ get_or r 2 0 ∷ get_or r 3 0 ∷ []

abbrev pub laid : ℕ → List Row → List ℕ
laid n [] = []
laid n (r ∷ rs) = numbered n r ++ laid n rs
