-- What a QSO over a text says: its columns, each absent or its bytes, its numbers, and the extra fields in order.
use Rattle.std.specs.Prelude.{ℕ, zero, suc, Bool, true, false, List, ℤ, pos, negsuc, get_or, Option, None, Some}
use Rattle.text.specs.Pick.{pick}
use Rattle.adif.specs.Grammar.{Field}
use Rattle.tables.specs.Place.{absent, value, bytes}
use Rattle.tables.specs.declared.Place.{Place}
use Rattle.columns.specs.Columns
use Rattle.model.specs.Flags.{is_yes}
use Rattle.model.specs.declared.Qso.{Qso}
use Rattle.model.specs.declared.Frequency.{Frequency}
use Rattle.model.specs.declared.Dxcc.{Dxcc}

-- a contact, as rigflow's `Qso`: five texts that are empty where the record has none, and what may be absent
pub record Contact : Type 0 where
  pub call : List ℕ
  pub qso_date : List ℕ
  pub time_on : List ℕ
  pub band : List ℕ
  pub mode : List ℕ
  pub submode : Option (List ℕ)
  pub freq : Option ℕ
  pub freq_rx : Option ℕ
  pub band_rx : Option (List ℕ)
  pub rst_sent : Option (List ℕ)
  pub rst_rcvd : Option (List ℕ)
  pub gridsquare : Option (List ℕ)
  pub dxcc : Option ℤ
  pub extra : List Field

-- the place of a column
abbrev pub place_of : Qso → ℕ → Place
place_of q k = get_or q.columns k absent

-- a column by its number: absent or its bytes; and where absent and empty are one
abbrev pub column : List ℕ → Qso → ℕ → Option (List ℕ)
column text q k = value text (place_of q k)

abbrev pub column_text : List ℕ → Qso → ℕ → List ℕ
column_text text q k = bytes text (place_of q k)

-- a frequency in hertz
abbrev pub hertz : Frequency → Option ℕ
hertz f = pick (is_yes f.given) (Some f.hz) None

-- a signed number by its size; there is no minus zero
abbrev pub signed : Bool → ℕ → ℤ
signed false n = pos n
signed true zero = pos 0
signed true (suc n) = negsuc n

abbrev pub entity : Dxcc → Option ℤ
entity d = pick (is_yes d.given) (Some (signed (is_yes d.negative) d.size)) None

unfoldable pub contact : List ℕ → Qso → List Field → Contact
contact text q extra = record {
  call = column_text text q Columns.call;
  qso_date = column_text text q Columns.qso_date;
  time_on = column_text text q Columns.time_on;
  band = column_text text q Columns.band;
  mode = column_text text q Columns.mode;
  submode = column text q Columns.submode;
  freq = hertz q.freq;
  freq_rx = hertz q.freq_rx;
  band_rx = column text q Columns.band_rx;
  rst_sent = column text q Columns.rst_sent;
  rst_rcvd = column text q Columns.rst_rcvd;
  gridsquare = column text q Columns.gridsquare;
  dxcc = entity q.dxcc;
  extra = extra;
}
