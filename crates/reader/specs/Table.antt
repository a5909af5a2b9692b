-- The answer to a reading, and the lent table after it.
use Rattle.refusals.specs.declared.Refusal.{Refusal}
use Rattle.reader.specs.declared.Reading.{Reading}
use Rattle.std.specs.Prelude.{◌≡◌, List, [], ◌∷◌, ◌++◌, ℕ, suc, ◌*◌, ◌-◌, ◌/◌, ◌≤◌, length, take, replicate, Result, Ok, Err}
use Rattle.adif.specs.Records.{records, refused, total}
use Rattle.adif.specs.Reading.{Row, RowsRead, read_text}
use Rattle.hand.specs.Rows.{laid}

-- the rows of all records, the first of which is record n
abbrev pub laid_from : ℕ → List (List Row) → List ℕ
laid_from n [] = []
laid_from n (r ∷ rs) = laid n r ++ laid_from (suc n) rs

abbrev pub zeros : ℕ → List ℕ
zeros n = replicate n 0

-- how many records, and the rows they take
abbrev pub answer_of : RowsRead → Result Reading Refusal
answer_of (records rs) = Ok (record { records = length rs; rows = total rs })
answer_of (refused w) = Err w

-- a table of n numbers: the rows, and zero behind them; zero throughout after a refusal
abbrev pub table_of : RowsRead → ℕ → List ℕ
table_of (records rs) n = laid_from 1 rs ++ zeros (n - length (laid_from 1 rs))
table_of (refused w) n = zeros n

-- a table of n numbers has n / 5 rows
unfoldable pub answer_to : List ℕ → List ℕ → Result Reading Refusal
answer_to text table = answer_of (read_text text (length table / 5))

unfoldable pub table_after : List ℕ → List ℕ → List ℕ
table_after text table = table_of (read_text text (length table / 5)) (length table)

-- how many numbers of the table the answer says are used
abbrev pub used_of : Result Reading Refusal → ℕ
used_of (Ok r) = r.rows * 5
used_of (Err w) = 0

-- the rows stand at the front of the table
abbrev pub Shown : List ℕ → RowsRead → Type 0
Shown table (records rs) = (take (length (laid_from 1 rs)) table ≡ laid_from 1 rs) × (length (laid_from 1 rs) ≤ length table)
Shown table (refused w) = Unit {0}
