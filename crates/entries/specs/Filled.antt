-- The rows of a plan, one for each record that was read, and what they say of the records as the plan's definition sees them.
use Rattle.std.specs.Prelude.{ℕ, ◌+◌, ◌*◌, ◌/◌, ◌≤◌, ◌<◌, ◌≡◌, List, [], length, get_or, Ok}
use Rattle.tables.specs.Place.{bytes}
use Rattle.chain.specs.Chain.{col}
use Rattle.adif.specs.Reading.{read_text}
use Rattle.reader.specs.Table.{answer_of, table_of}
use Rattle.writer.specs.Rows.{rows_from}
use Rattle.confirmations.specs.Confirmations.{answers_of}
use Rattle.plan.specs.Entry.{Entry, no_entry, entries_of}
use Rattle.plan.specs.Fates.{bears_any}
use Rattle.model.specs.Flags.{one_if}
use Rattle.entries.specs.Row.{Row, call_in, mode_in, band_in, date_in, moment_in, file_code}

-- a text was read into the table: n records, in so many rows
pub record ReadInto (text table : List ℕ) (n : ℕ) : Type 0 where
  pub used : ℕ
  pub small : length text ≤ 16777216
  pub answer : answer_of (read_text text (length table / 5)) ≡ Ok (record { records = n; rows = used })
  pub shown : table ≡ table_of (read_text text (length table / 5)) (length table)

-- the records as the plan's definition sees them
abbrev pub entries_read : List ℕ → List ℕ → List Entry
entries_read text table = entries_of text (read_text text (length table / 5))

-- ---- a row and a record
pub record Says (text : List ℕ) (r : Row) (e : Entry) : Type 0 where
  pub call : bytes text (call_in r) ≡ e.call
  pub mode : bytes text (mode_in r) ≡ e.mode
  pub band : bytes text (band_in r) ≡ e.band
  pub moment : moment_in r ≡ e.moment
  pub reason : get_or r 1 0 ≡ e.reason
  pub code : get_or r 4 0 ≡ file_code e.call e.mode e.band
  pub bears : get_or r 23 0 ≡ one_if (bears_any e.answers)

-- where its answers come from
pub record Answers (text table : List ℕ) (r : Row) (e : Entry) : Type 0 where
  pub inside : (get_or r 20 0 + get_or r 21 0) * 5 ≤ length table
  pub answers : answers_of text (rows_from table (get_or r 20 0) (get_or r 21 0)) (date_in r) ≡ e.answers

-- ---- n rows and n records
pub record Said (text : List ℕ) (n : ℕ) (es : List Entry) (rows : List Row) : Type 0 where
  pub counted : n ≡ length es
  pub room : n ≤ length rows
  pub says : (j : ℕ) → j < n → Says text (get_or rows j []) (get_or es j no_entry)

unfoldable pub Answered : List ℕ → List ℕ → ℕ → List Entry → List Row → Type 0
Answered text table n es rows = (j : ℕ) → j < n → Answers text table (get_or rows j []) (get_or es j no_entry)

-- nothing is settled: no fate, no contact found, no chain
pub record Bare (n : ℕ) (rows : List Row) : Type 0 where
  pub fates : (j : ℕ) → j < n → col rows j 0 ≡ 0
  pub heads : (j : ℕ) → j < n → col rows j 2 ≡ 0
  pub services : (j : ℕ) → j < n → col rows j 24 ≡ 0
  pub card_heads : (j : ℕ) → j < n → col rows j 25 ≡ 0
