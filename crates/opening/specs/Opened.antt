-- What beginning a plan answers and leaves: the refusal of the list, of the reading, or 19 where there are fewer rows than records; else
-- the table of the reading, and a row for each record in front of zeros.
use Rattle.refusals.specs.declared.Refusal.{Refusal}
use Rattle.reader.specs.declared.Reading.{Reading}
use Rattle.contacts.specs.declared.Mark.{Mark}
use Rattle.std.specs.Prelude.{ℕ, ◌/◌, ◌≡◌, List, leb, length, replicate, Result, Ok, Err}
use Rattle.std.proofs.lemmas.List.Edits.{sets}
use Rattle.text.specs.Pick.{pick}
use Rattle.refusals.specs.declared.Refusal.TheVariants.{ShortTable}
use Rattle.adif.specs.Records.{records, refused, total}
use Rattle.adif.specs.Reading.{RowsRead, read_text}
use Rattle.reader.specs.Table.{table_of, zeros}
use Rattle.entries.specs.Row.{Row, no_row}
use Rattle.entries.specs.Walked.{entry_rows}
use Rattle.plan.specs.Cards.{no_card}

-- with so many rows lent
unfoldable pub read_by : ℕ → RowsRead → Result Reading Refusal
read_by lent (refused why) = Err why
read_by lent (records rs) = pick (leb (length rs) lent) (Ok (record { records = length rs; rows = total rs })) (Err ShortTable)

-- and a table of so many numbers
abbrev pub read_as : List ℕ → ℕ → ℕ → Result Reading Refusal
read_as text numbers lent = read_by lent (read_text text (numbers / 5))

unfoldable pub opened_as : List ℕ → Result Mark Refusal → ℕ → ℕ → Result Reading Refusal
opened_as text (Err why) numbers lent = Err why
opened_as text (Ok m) numbers lent = read_as text numbers lent

unfoldable pub opened_table : List ℕ → ℕ → Result Reading Refusal → List ℕ
opened_table text numbers (Ok r) = table_of (read_text text (numbers / 5)) numbers
opened_table text numbers (Err why) = zeros numbers

unfoldable pub opened_fates : List ℕ → ℕ → ℕ → Result Reading Refusal → List Row
opened_fates text numbers lent (Ok r) = sets (replicate lent no_row) 0 (entry_rows text (read_text text (numbers / 5)))
opened_fates text numbers lent (Err why) = replicate lent no_row

pub record OpenedRead (text : List ℕ) (numbers lent : ℕ) (r : Result Reading Refusal) (table : List ℕ) (fates : List Row) : Type 0 where
  pub answer : r ≡ read_as text numbers lent
  pub tabled : table ≡ opened_table text numbers r
  pub fated : fates ≡ opened_fates text numbers lent r

pub record Opened (text : List ℕ) (listed : Result Mark Refusal) (numbers lent room : ℕ) (r : Result Reading Refusal) (table : List ℕ) (fates : List Row) (cards : List (List ℕ)) : Type 0 where
  pub answer : r ≡ opened_as text listed numbers lent
  pub tabled : table ≡ opened_table text numbers r
  pub fated : fates ≡ opened_fates text numbers lent r
  pub carded : cards ≡ replicate room no_card

-- how many records were read, none where the reading is refused
unfoldable pub records_in : Result Reading Refusal → ℕ
records_in (Ok r) = r.records
records_in (Err why) = 0
