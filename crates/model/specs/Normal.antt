-- Normalising a contact: what comes out, as bytes and then as places.
use Rattle.std.specs.Prelude.{ℕ, Bool, List, eqb, length, set, Some, None, Option}
use Rattle.text.specs.Pick.{pick, both, either}
use Rattle.text.specs.Space.{trimmed}
use Rattle.tables.specs.Table.{entry}
use Rattle.tables.specs.Bands.{band_names, band_for, band_named}
use Rattle.tables.specs.Place.{absent, part, in_text, is_absent, or_else, band_place}
use Rattle.tables.specs.declared.Place.{Place}
use Rattle.normalize.specs.Normal.{otherwise, normal, normal_places}
use Rattle.columns.specs.Columns.{band, mode, submode, band_rx}
use Rattle.model.specs.Flags.{is_yes}
use Rattle.model.specs.Contact.{Contact, place_of}
use Rattle.model.specs.declared.Qso.{Qso}
use Rattle.model.specs.declared.Frequency.{Frequency}

-- ---- as bytes

abbrev pub band_name : Option ℕ → Option (List ℕ)
band_name (Some k) = entry band_names k
band_name None = None

-- the name of the band of a frequency, if there is one and it lies in a band
abbrev pub band_of : Option ℕ → Option (List ℕ)
band_of None = None
band_of (Some hz) = band_name (band_for hz)

-- the name of a band in its canonical case, if the text names one
unfoldable pub canonical : List ℕ → Option (List ℕ)
canonical b = band_name (band_named b)

unfoldable pub is_blank : List ℕ → Bool
is_blank b = eqb (length (trimmed b)) 0

-- a blank band comes from the frequency; a known one takes its canonical case; an unknown one stays as it is
unfoldable pub normal_band : List ℕ → Option ℕ → List ℕ
normal_band b freq = pick (is_blank b) (otherwise (band_of freq) b) (otherwise (canonical b) b)

-- a band of the receiver that is absent comes from its frequency; one that is present is never derived, even a blank one
unfoldable pub normal_band_rx : Option (List ℕ) → Option ℕ → Option (List ℕ)
normal_band_rx None freq = band_of freq
normal_band_rx (Some b) freq = Some (otherwise (canonical b) b)

-- the whole contact, with only mode, submode, band and band_rx changed
unfoldable pub normal_contact : Contact → Contact
normal_contact c = record {
  call = c.call;
  qso_date = c.qso_date;
  time_on = c.time_on;
  band = normal_band c.band c.freq;
  mode = (normal c.mode c.submode).mode;
  submode = (normal c.mode c.submode).submode;
  freq = c.freq;
  freq_rx = c.freq_rx;
  band_rx = normal_band_rx c.band_rx c.freq_rx;
  rst_sent = c.rst_sent;
  rst_rcvd = c.rst_rcvd;
  gridsquare = c.gridsquare;
  dxcc = c.dxcc;
  extra = c.extra;
}

-- ---- as places

-- the entry of the band of a frequency, or absent
unfoldable pub band_at : Frequency → Place
band_at f = pick (is_yes f.given) (band_place (band_for f.hz)) absent

-- the entry of the band that a column names, or absent
unfoldable pub known_band : List ℕ → Place → Place
known_band text p = band_place (band_named (part text p))

unfoldable pub blank : List ℕ → Place → Bool
blank text p = either (is_absent p) (both (in_text p) (is_blank (part text p)))

unfoldable pub normal_band_place : List ℕ → Place → Frequency → Place
normal_band_place text p f = or_else (pick (blank text p) (band_at f) (known_band text p)) p

unfoldable pub normal_band_rx_place : List ℕ → Place → Frequency → Place
normal_band_rx_place text p f = or_else (pick (is_absent p) (band_at f) (known_band text p)) p

unfoldable pub normal_columns : List ℕ → Qso → List Place
normal_columns text q =
    set
    (set
    (set
    (set q.columns mode (normal_places text (place_of q mode) text (place_of q submode)).mode)
    submode (normal_places text (place_of q mode) text (place_of q submode)).submode)
    band (normal_band_place text (place_of q band) q.freq))
    band_rx (normal_band_rx_place text (place_of q band_rx) q.freq_rx)

unfoldable pub normal_qso : List ℕ → Qso → Qso
normal_qso text q = record { columns = normal_columns text q; freq = q.freq; freq_rx = q.freq_rx; dxcc = q.dxcc }
