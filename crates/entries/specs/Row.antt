-- The row that a plan keeps of a record while it works, as plain numbers:
-- 0 the fate, 1 the reason, 2 and 3 the chains of importable records (the last record of the chain of this number, and the record before
-- this one in its own; both by number and one, 0 for none), 4 the code of its call, mode and band, all trimmed, 5 to 7 the place of its
-- call, 8 to 10 of its mode, 11 to 13 of its band, 14 to 16 of its date, 17 whether it has a moment, 18 and 19 the seconds of that, 20 its
-- first row in the table of rows, 21 how many it has there, 22 the contact that it found, by number and one, 23 whether it bears a
-- confirmation, 24 the services that count at it, as bits, 25 and 26 the chains of records at which a service counts, 27 the place of the
-- found contact's entry in the list. A number of 64 bits has its low half first.
use Rattle.std.specs.Prelude.{ℕ, zero, suc, Bool, List, [], ◌∷◌, get_or, replicate, set, Option}
use Rattle.text.specs.Space.{trimmed}
use Rattle.tables.specs.Place.{place}
use Rattle.tables.specs.declared.Place.{Place}
use Rattle.times.specs.Moments.{moment_of}
use Rattle.columns.specs.Columns
use Rattle.model.specs.Flags.{one_if}
use Rattle.model.specs.Contact.{place_of, column_text}
use Rattle.model.specs.Normal.{normal_qso}
use Rattle.model.specs.declared.Qso.{Qso}
use Rattle.mapping.specs.Mapping.{mapped}
use Rattle.rowcheck.specs.Check
use Rattle.dedupe.specs.declared.Key.{Key}
use Rattle.index.specs.Rows.{low, high, joined, has_moment, seconds_in, moment_from, code_of}
use Rattle.confirmations.specs.Confirmations.{answers_of}
use Rattle.usable.specs.Reasons.{reason_in}
use Rattle.plan.specs.Entry.{is_refused}
use Rattle.plan.specs.Fates.{bears_any}

abbrev pub Row : Type 0
Row = List ℕ

abbrev pub no_row : Row
no_row = replicate 28 0

-- n numbers of a row, from i on; the row with another number in a column
abbrev pub numbers_from : Row → ℕ → ℕ → List ℕ
numbers_from r i zero = []
numbers_from r i (suc n) = get_or r i 0 ∷ numbers_from r (suc i) n

abbrev pub with_number : Row → ℕ → ℕ → Row
with_number r column value = set (numbers_from r 0 28) column value

-- ---- what a row says
abbrev pub call_in : Row → Place
call_in r = place (get_or r 5 0) (get_or r 6 0) (get_or r 7 0)

abbrev pub mode_in : Row → Place
mode_in r = place (get_or r 8 0) (get_or r 9 0) (get_or r 10 0)

abbrev pub band_in : Row → Place
band_in r = place (get_or r 11 0) (get_or r 12 0) (get_or r 13 0)

abbrev pub date_in : Row → Place
date_in r = place (get_or r 14 0) (get_or r 15 0) (get_or r 16 0)

abbrev pub key_in : Row → Key
key_in r = record { call = call_in r; mode = mode_in r; band = band_in r }

abbrev pub moment_in : Row → Option ℕ
moment_in r = moment_from (get_or r 17 0) (joined (get_or r 18 0) (get_or r 19 0))

-- ---- the row of a record that nothing is settled of
-- a number that records of one key in the file share
unfoldable pub file_code : List ℕ → List ℕ → List ℕ → ℕ
file_code call mode band = code_of (trimmed call) (trimmed mode) (trimmed band)

unfoldable pub row_of : ℕ → ℕ → Place → Place → Place → Place → Option ℕ → ℕ → ℕ → Bool → Row
row_of reason code call mode band date moment first count bears =
    0 ∷ reason ∷ 0 ∷ 0 ∷ code
    ∷ call.kind ∷ call.start ∷ call.len
    ∷ mode.kind ∷ mode.start ∷ mode.len
    ∷ band.kind ∷ band.start ∷ band.len
    ∷ date.kind ∷ date.start ∷ date.len
    ∷ has_moment moment ∷ low (seconds_in moment) ∷ high (seconds_in moment)
    ∷ first ∷ count ∷ 0 ∷ one_if bears ∷ 0 ∷ 0 ∷ 0 ∷ 0 ∷ []

-- of a normal QSO over a text, `rows` being its record's
unfoldable pub row_with : List ℕ → List Check.Row → Qso → Bool → ℕ → ℕ → Row
row_with text rows q inexact first count =
    row_of
    (reason_in text q inexact)
    (file_code (column_text text q Columns.call) (column_text text q Columns.mode) (column_text text q Columns.band))
    (place_of q Columns.call)
    (place_of q Columns.mode)
    (place_of q Columns.band)
    (place_of q Columns.qso_date)
    (moment_of (column_text text q Columns.qso_date) (column_text text q Columns.time_on))
    first
    count
    (bears_any (answers_of text rows (place_of q Columns.qso_date)))

-- of `count` rows from row `first` on
unfoldable pub entry_row : List ℕ → List Check.Row → ℕ → ℕ → Row
entry_row text rows first count = row_with text rows (normal_qso text (mapped text rows).qso) (is_refused (mapped text rows).verdict) first count
