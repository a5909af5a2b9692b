-- What comes of rows that are written and read back.
use Rattle.refusals.specs.declared.Refusal.{Refusal}
use Rattle.reader.specs.declared.Reading.{Reading}
use Rattle.std.specs.Prelude.{◌≡◌, List, ℕ, ◌/◌, ◌≤◌, length, take, Result, Ok, Err}
use Rattle.reader.specs.Table.{answer_to, table_after}
use Rattle.writer.specs.Rows.{rows_of, records_of}
use Rattle.writer.specs.Answer.{answer_of, output_of}

-- the n bytes that were written are read into a table
abbrev pub trip_by : Result ℕ Refusal → List ℕ → List ℕ → Result (Result Reading Refusal) Refusal
trip_by (Ok n) out table = Ok (answer_to (take n out) table)
trip_by (Err why) out table = Err why

abbrev pub table_by : Result ℕ Refusal → List ℕ → List ℕ → List ℕ
table_by (Ok n) out table = table_after (take n out) table
table_by (Err why) out table = table

module _ (text rows : List ℕ) (count : ℕ) (out table : List ℕ) where
  unfoldable pub trip_of : Result (Result Reading Refusal) Refusal
  trip_of = trip_by (answer_of text rows count (length out)) (output_of text rows count out) table

  unfoldable pub table_of : List ℕ
  table_of = table_by (answer_of text rows count (length out)) (output_of text rows count out) table

-- where there is a row for each field, the table says of the written text what the rows said of theirs: the same records, in their
-- order, field by field
abbrev pub SaysBy : Result ℕ Refusal → List ℕ → List ℕ → ℕ → List ℕ → List ℕ → Type 0
SaysBy (Ok n) text rows count out after = records_of (take n out) (rows_of after count) ≡ records_of text (rows_of rows count)
SaysBy (Err why) text rows count out after = Unit {0}

unfoldable pub SaysSame : List ℕ → List ℕ → ℕ → List ℕ → List ℕ → List ℕ → List ℕ → Type 0
SaysSame text rows count was out table after = count ≤ length table / 5 → SaysBy (answer_of text rows count (length was)) text rows count out after
