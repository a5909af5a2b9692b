-- A record mapped to a contact, as bytes: the columns by name, their numbers read, and all other fields as they are.
use Rattle.decimal.specs.declared.Signed.{Signed}
use Rattle.std.specs.Prelude.{ℕ, List, [], ◌∷◌, ℤ, get_or, Some, None, Option}
use Rattle.text.specs.Pick.{pick}
use Rattle.text.specs.Space.{trimmed}
use Rattle.letters.specs.Same.{same}
use Rattle.decimal.specs.Decimal.{signed_of}
use Rattle.mhz.specs.Reading.{read_hertz}
use Rattle.mhz.specs.declared.Hz.{Hz}
use Rattle.mhz.specs.declared.Hz.TheVariants.{Absent, Is, Outside}
use Rattle.adif.specs.Grammar.{Field}
use Rattle.tables.specs.Place.{or_empty}
use Rattle.columns.specs.Columns
use Rattle.columns.specs.Columns.{column_names, is_column}
use Rattle.model.specs.Contact.{Contact, signed}

-- the value of the field of that name
abbrev pub value_named : List ℕ → List Field → Option (List ℕ)
value_named name [] = None
value_named name (f ∷ fs) = pick (same f.name name) (Some f.value) (value_named name fs)

-- the value of a column, by its number
abbrev pub column_value : ℕ → List Field → Option (List ℕ)
column_value k fs = value_named (get_or column_names k []) fs

-- a frequency, if the text says one; outside the exact window none is known
abbrev pub hertz_read : Hz → Option ℕ
hertz_read Absent = None
hertz_read (Is n) = Some n
hertz_read Outside = None

abbrev pub frequency_read : Option (List ℕ) → Option ℕ
frequency_read None = None
frequency_read (Some x) = hertz_read (read_hertz x)

-- DXCC is trimmed and is a signed 64-bit number or absent
abbrev pub entity_read : Option Signed → Option ℤ
entity_read (Some n) = Some (signed n.negative n.size)
entity_read None = None

abbrev pub dxcc_read : Option (List ℕ) → Option ℤ
dxcc_read None = None
dxcc_read (Some x) = entity_read (signed_of (trimmed x))

-- the fields that are no columns
abbrev pub extra_fields : List Field → List Field
extra_fields [] = []
extra_fields (f ∷ fs) = pick (is_column f.name) (extra_fields fs) (f ∷ extra_fields fs)

unfoldable pub contact_of : List Field → Contact
contact_of fs = record {
  call = or_empty (column_value Columns.call fs);
  qso_date = or_empty (column_value Columns.qso_date fs);
  time_on = or_empty (column_value Columns.time_on fs);
  band = or_empty (column_value Columns.band fs);
  mode = or_empty (column_value Columns.mode fs);
  submode = column_value Columns.submode fs;
  freq = frequency_read (column_value Columns.freq fs);
  freq_rx = frequency_read (column_value Columns.freq_rx fs);
  band_rx = column_value Columns.band_rx fs;
  rst_sent = column_value Columns.rst_sent fs;
  rst_rcvd = column_value Columns.rst_rcvd fs;
  gridsquare = column_value Columns.gridsquare fs;
  dxcc = dxcc_read (column_value Columns.dxcc fs);
  extra = extra_fields fs;
}
