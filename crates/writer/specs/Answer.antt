-- What the writer answers, and what it leaves in the output.
use Rattle.refusals.specs.declared.Refusal.{Refusal}
use Rattle.std.specs.Prelude.{List, ℕ, ◌/◌, length, leb, ⊤, Result, Ok, Err}
use Rattle.text.specs.Pick.{pick}
use Rattle.refusals.specs.Written.{fitted, output_by}
use Rattle.refusals.specs.declared.Refusal.TheVariants.{TooLong, BadRow}
use Rattle.rowcheck.specs.Check.{Row, check_of}
use Rattle.writer.specs.Rows.{rows_of, rows_text}

-- the size of the text, or why there is none
abbrev pub sized_by : Result ⊤ Refusal → ℕ → Result ℕ Refusal
sized_by (Ok tt) n = Ok n
sized_by (Err why) n = Err why

unfoldable pub checked_of : List ℕ → List Row → Result ℕ Refusal
checked_of text rows = sized_by (check_of text rows) (length (rows_text text rows))

-- 1 for the source text, 11 for a count above what the table holds, then the rows; then 1 for the output, 13
unfoldable pub answer_of : List ℕ → List ℕ → ℕ → ℕ → Result ℕ Refusal
answer_of text table count room =
    pick (leb (length text) 16777216)
    (pick (leb count (length table / 5)) (fitted (checked_of text (rows_of table count)) room) (Err BadRow))
    (Err TooLong)

unfoldable pub output_of : List ℕ → List ℕ → ℕ → List ℕ → List ℕ
output_of text table count was = output_by (answer_of text table count (length was)) was (rows_text text (rows_of table count))
