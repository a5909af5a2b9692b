-- What a record becomes that is mapped to a contact and written back, field by field; and what a contact becomes that is written, read
-- and mapped.
use Rattle.std.specs.Prelude.{◌≡◌, false, List, [], ◌∷◌, ℕ, ◌^◌, ◌<◌, ℤ, pos, negsuc, Option, None, Some}
use Rattle.letters.specs.Capitals.{capitals}
use Rattle.mhz.specs.Reading.{read_hertz}
use Rattle.mhz.specs.Writing.{mhz_text}
use Rattle.mhz.specs.declared.Hz.TheVariants.{Is}
use Rattle.adif.specs.Grammar.{Field}
use Rattle.adif.specs.Limits.{Ascending}
use Rattle.tables.specs.Place.{or_empty}
use Rattle.normalize.specs.Normal.{unless_empty}
use Rattle.columns.specs.Columns
use Rattle.columns.specs.Columns.{is_column}
use Rattle.model.specs.Contact.{Contact}
use Rattle.mapping.specs.Contact.{value_named, column_value, frequency_read, dxcc_read}
use Rattle.qsowriter.specs.Record.{megahertz, split_only, entity_text}

abbrev pub name_of : Field → List ℕ
name_of f = f.name

-- a law of each field
abbrev pub Each : (Field → Type 0) → List Field → Type 0
Each P [] = Unit {0}
Each P (f ∷ fs) = P f × Each P fs

abbrev pub InCapitals : Field → Type 0
InCapitals f = capitals f.name ≡ f.name

abbrev pub NoColumn : Field → Type 0
NoColumn f = is_column f.name ≡ false

-- the record `after` is the record `before`, mapped and written back
pub record Rewritten (before after : List Field) : Type 0 where
  -- four columns are always there, even empty
  pub call : column_value Columns.call after ≡ Some (or_empty (column_value Columns.call before))
  pub qso_date : column_value Columns.qso_date after ≡ Some (or_empty (column_value Columns.qso_date before))
  pub time_on : column_value Columns.time_on after ≡ Some (or_empty (column_value Columns.time_on before))
  pub mode : column_value Columns.mode after ≡ Some (or_empty (column_value Columns.mode before))
  -- an empty BAND is dropped, and BAND_RX without a frequency of the receiver
  pub band : column_value Columns.band after ≡ unless_empty (or_empty (column_value Columns.band before))
  pub band_rx : column_value Columns.band_rx after ≡ split_only (frequency_read (column_value Columns.freq_rx before)) (column_value Columns.band_rx before)
  -- frequencies have six decimals, DXCC is the text of its number; what says none is dropped
  pub freq : column_value Columns.freq after ≡ megahertz (frequency_read (column_value Columns.freq before))
  pub freq_rx : column_value Columns.freq_rx after ≡ megahertz (frequency_read (column_value Columns.freq_rx before))
  pub dxcc : column_value Columns.dxcc after ≡ entity_text (dxcc_read (column_value Columns.dxcc before))
  -- all else is as it was
  pub submode : column_value Columns.submode after ≡ column_value Columns.submode before
  pub rst_sent : column_value Columns.rst_sent after ≡ column_value Columns.rst_sent before
  pub rst_rcvd : column_value Columns.rst_rcvd after ≡ column_value Columns.rst_rcvd before
  pub gridsquare : column_value Columns.gridsquare after ≡ column_value Columns.gridsquare before
  pub others : (name : List ℕ) → is_column name ≡ false → value_named name after ≡ value_named name before
  -- in strict byte order of the names, which are in capitals
  pub rising : Ascending name_of after
  pub capital : Each InCapitals after

-- the contact that is read back: frequencies as six decimals say them, the band of the receiver only beside its frequency, DXCC as its
-- text says it; all else as it was
unfoldable pub read_back : Contact → Contact
read_back c = record {
  call = c.call;
  qso_date = c.qso_date;
  time_on = c.time_on;
  band = c.band;
  mode = c.mode;
  submode = c.submode;
  freq = frequency_read (megahertz c.freq);
  freq_rx = frequency_read (megahertz c.freq_rx);
  band_rx = split_only c.freq_rx c.band_rx;
  rst_sent = c.rst_sent;
  rst_rcvd = c.rst_rcvd;
  gridsquare = c.gridsquare;
  dxcc = dxcc_read (entity_text c.dxcc);
  extra = c.extra;
}

-- a frequency that survives being written; each of at most 10 ^ 12 Hz does
abbrev pub Survives : Option ℕ → Type 0
Survives None = Unit {0}
Survives (Some hz) = read_hertz (mhz_text hz) ≡ Is hz

-- a number of 64 bits with a sign
abbrev pub Signed64 : Option ℤ → Type 0
Signed64 None = Unit {0}
Signed64 (Some (pos n)) = n < 2 ^ 63
Signed64 (Some (negsuc n)) = n < 2 ^ 63

-- a contact that comes back as it is
pub record Lasting (c : Contact) : Type 0 where
  pub freq : Survives c.freq
  pub freq_rx : Survives c.freq_rx
  pub band_rx : c.freq_rx ≡ None → c.band_rx ≡ None
  pub dxcc : Signed64 c.dxcc
