-- A record's rows mapped to a QSO over their text, and which rows are a record's.
use Rattle.decimal.specs.declared.Signed.{Signed}
use Rattle.std.specs.Prelude.{ℕ, ◌+◌, ◌/◌, Bool, true, false, List, [], ◌∷◌, map, eqb, leb, ltb, length, get_or, Option, Some, None}
use Rattle.text.specs.Pick.{pick, both, either}
use Rattle.text.specs.Space.{trimmed}
use Rattle.letters.specs.Same.{same_raised}
use Rattle.letters.specs.Order.{order_raised}
use Rattle.decimal.specs.Decimal.{signed_of}
use Rattle.mhz.specs.Reading.{read_hertz}
use Rattle.mhz.specs.declared.Hz.{Hz}
use Rattle.mhz.specs.declared.Hz.TheVariants.{Absent, Is, Outside}
use Rattle.refusals.specs.declared.Refusal.TheVariants.{TooLong, BadRow, InexactFrequency}
use Rattle.rowcheck.specs.Check.{Row, record_in, name_in, placed, sound, is_less}
use Rattle.writer.specs.Rows.{rows_from}
use Rattle.tables.specs.Place.{absent, value_place, part}
use Rattle.tables.specs.declared.Place.{Place}
use Rattle.columns.specs.Columns.{column_names, is_column, freq, freq_rx, dxcc}
use Rattle.model.specs.Flags.{one_if}
use Rattle.model.specs.Normal.{normal_qso}
use Rattle.model.specs.Answer.{no_frequency, no_dxcc, empty_qso, accepted, refused}
use Rattle.model.specs.declared.Frequency.{Frequency}
use Rattle.model.specs.declared.Dxcc.{Dxcc}
use Rattle.model.specs.declared.Qso.{Qso}
use Rattle.model.specs.declared.Answer.{Answer}

-- the place of the value of the field of that name
abbrev pub place_named : List ℕ → List Row → List ℕ → Place
place_named text [] name = absent
place_named text (r ∷ rs) name = pick (same_raised (name_in text r) name) (value_place r) (place_named text rs name)

-- each column is the value of the field of its name, or absent
unfoldable pub columns_of : List ℕ → List Row → List Place
columns_of text rows = map (place_named text rows) column_names

-- the rows of the extra fields
abbrev pub extra_rows : List ℕ → List Row → List Row
extra_rows text [] = []
extra_rows text (r ∷ rs) = pick (is_column (name_in text r)) (extra_rows text rs) (r ∷ extra_rows text rs)

-- ---- the numbers
abbrev pub hertz_at : List ℕ → List Place → ℕ → Hz
hertz_at text columns k = read_hertz (part text (get_or columns k absent))

abbrev pub is_outside : Hz → Bool
is_outside Absent = false
is_outside (Is n) = false
is_outside Outside = true

abbrev pub frequency_of : Hz → Frequency
frequency_of Absent = no_frequency
frequency_of (Is n) = record { given = 1; hz = n }
frequency_of Outside = no_frequency

abbrev pub dxcc_of : Option Signed → Dxcc
dxcc_of (Some n) = record { given = 1; negative = one_if n.negative; size = n.size }
dxcc_of None = no_dxcc

unfoldable pub dxcc_at : List ℕ → List Place → Dxcc
dxcc_at text columns = dxcc_of (signed_of (trimmed (part text (get_or columns dxcc absent))))

-- ---- the QSO
unfoldable pub qso_with : List ℕ → List Place → Frequency → Frequency → Qso
qso_with text columns f g = record { columns = columns; freq = f; freq_rx = g; dxcc = dxcc_at text columns }

-- 15: a frequency outside the exact window; then both are absent
unfoldable pub answer_with : List ℕ → List Place → Hz → Hz → Answer
answer_with text columns f g =
    pick (either (is_outside f) (is_outside g))
    (refused InexactFrequency (qso_with text columns no_frequency no_frequency))
    (accepted (qso_with text columns (frequency_of f) (frequency_of g)))

unfoldable pub answer_over : List ℕ → List Place → Answer
answer_over text columns = answer_with text columns (hertz_at text columns freq) (hertz_at text columns freq_rx)

unfoldable pub mapped : List ℕ → List Row → Answer
mapped text rows = answer_over text (columns_of text rows)

-- ---- which rows are a record's: each has its place in the text and whole characters, all are of one record, which is numbered from
-- 1, and the names rise strictly
unfoldable pub is_row : List ℕ → Row → Bool
is_row text r = both (placed text r) (sound text r)

unfoldable pub rises : List ℕ → Row → Row → Bool
rises text p r = both (eqb (record_in r) (record_in p)) (is_less (order_raised (name_in text p) (name_in text r)))

abbrev pub goes_on : List ℕ → Row → List Row → Bool
goes_on text p [] = true
goes_on text p (r ∷ rs) = both (both (is_row text r) (rises text p r)) (goes_on text r rs)

unfoldable pub is_record : List ℕ → List Row → Bool
is_record text [] = true
is_record text (r ∷ rs) = both (both (is_row text r) (ltb 0 (record_in r))) (goes_on text r rs)

-- 1 for the text, 11 for more rows than the table holds and for rows that are no record of the text; then 15
unfoldable pub mapped_to : List ℕ → List ℕ → ℕ → ℕ → Answer
mapped_to text table first count =
    pick (leb (length text) 16777216)
    (pick (leb (first + count) (length table / 5))
    (pick (is_record text (rows_from table first count)) (mapped text (rows_from table first count)) (refused BadRow empty_qso))
    (refused BadRow empty_qso))
    (refused TooLong empty_qso)

-- mapped and normalised, as `parse_adif_to_qsos` makes of each record; the empty QSO of a refused record stays empty
abbrev pub with_normal : List ℕ → Answer → Answer
with_normal text a = record { qso = normal_qso text a.qso; verdict = a.verdict }

unfoldable pub normal_to : List ℕ → List ℕ → ℕ → ℕ → Answer
normal_to text table first count =
    pick (leb (length text) 16777216) (with_normal text (mapped_to text table first count)) (mapped_to text table first count)
