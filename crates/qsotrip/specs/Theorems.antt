-- What is proved of the frequencies of a contact that is written, read and mapped, as often as one likes.
use Rattle.std.specs.Prelude.{◌≡◌, List, ◌++◌, map, ℕ, ◌/◌, ◌^◌, ◌≤◌, length, Ok, Option, None, Some}
use Rattle.rowcheck.specs.Check.{Row}
use Rattle.reader.specs.Table.{table_after}
use Rattle.writer.specs.Rows.{rows_of, row_field}
use Rattle.trip.specs.File.{Front, front_text, Fit}
use Rattle.model.specs.Contact.{Contact}
use Rattle.model.specs.Answer.{accepted}
use Rattle.model.specs.declared.Qso.{Qso}
use Rattle.mapping.specs.Mapping.{extra_rows, mapped}
use Rattle.qsowriter.specs.Record.{record_of}
use Rattle.qsowriter.specs.Writing.{contact_with, qso_text, qso_verdict}
use Rattle.qsotrip.specs.Rewritten.{Each, NoColumn}

-- A contact that is sent: a QSO over its text with the rows of its extra fields, which their writer takes and of which none has a column's
-- name; the file in which it stands, behind any header; and a table into which that is read, with room for its fields.
pub record Sent : Type 0 where
  pub text : List ℕ
  pub qso : Qso
  pub extra : List ℕ
  pub count : ℕ
  pub taken : qso_verdict text qso extra count ≡ Ok tt
  pub no_column : Each NoColumn (map (row_field text) (rows_of extra count))
  pub front : Front
  pub fits : Fit front
  pub file : List ℕ
  pub holds : file ≡ front_text front ++ qso_text text qso (rows_of extra count)
  pub few : length file ≤ 16777216
  pub table : List ℕ
  pub room : length (record_of (contact_with text qso (rows_of extra count))) ≤ length table / 5

abbrev pub sent_contact : Sent → Contact
sent_contact s = contact_with s.text s.qso (rows_of s.extra s.count)

-- the rows of the table, once the file is read
abbrev pub rows_there : Sent → List Row
rows_there s = rows_of (table_after s.file s.table) (length (record_of (sent_contact s)))

-- It arrives where they are mapped to a QSO, and no refusal is met.
pub record Arrived (s : Sent) : Type 0 where
  pub qso : Qso
  pub taken : mapped s.file (rows_there s) ≡ accepted qso

abbrev pub arrived_contact : (s : Sent) → Arrived s → Contact
arrived_contact s a = contact_with s.file a.qso (extra_rows s.file (rows_there s))

-- one contact is sent, and the other arrives
pub record Trip (before after : Contact) : Type 0 where
  pub sent : Sent
  pub arrived : Arrived sent
  pub from : sent_contact sent ≡ before
  pub to : arrived_contact sent arrived ≡ after

pub data Trips : Contact → Contact → Type 0 where
  stayed : (c : Contact) → Trips c c
  went_on : (a b c : Contact) → Trips a b → Trip b c → Trips a c

-- no frequency, or one of at most 10 ^ 12 Hz
abbrev pub Low : Option ℕ → Type 0
Low None = Unit {0}
Low (Some hz) = hz ≤ 10 ^ 12

abbrev pub Tuned : Contact → Type 0
Tuned c = Low c.freq × Low c.freq_rx

-- ---- what is proved: such a contact arrives, and has the frequencies that it had, however often it goes
abbrev pub Arrives : Type 0
Arrives = (s : Sent) → Tuned (sent_contact s) → Arrived s

abbrev pub FrequenciesLast : Type 0
FrequenciesLast = (before after : Contact) → Tuned before → Trips before after → (after.freq ≡ before.freq) × (after.freq_rx ≡ before.freq_rx)
