-- Worked examples.
use Rattle.std.specs.Prelude.{◌≡◌, refl, List, [], ◌∷◌, ◌++◌, replicate, None, Some}
use Rattle.std.proofs.Common.{lit≤}
use Rattle.text.specs.Ascii.{ascii}
use Rattle.text.specs.Space.{space1, space2, space3, space80, space_len, space_back, width, trim_start, trim_end, trimmed}
use Rattle.text.specs.Walk.{lead}
use Rattle.letters.specs.Capitals.{raised}
use Rattle.letters.specs.Same.{same_raised}
use Rattle.decimal.specs.Decimal.{digits_after, digits_of, leads, unsigned_of, above_zero, below_zero, signed_of}
use Rattle.decimal.specs.Digits.{digits, decimal}
use Rattle.mhz.specs.Digits.{number_of}
use Rattle.mhz.specs.Number.{negative, unsigned, pointed, whole_part, fraction_part, after_decimal, all_digits, decimal_of, is_infinity, is_nan, unsigned_number, number_in}
use Rattle.mhz.specs.Reading.{read_hertz}
use Rattle.mhz.specs.Writing.{six_decimals}
use Rattle.adif.specs.Grammar.{Field}
use Rattle.fields.specs.Written.{field_text}
use Rattle.writer.specs.Rows.{rows_of}
use Rattle.trip.specs.File.{bare}
use Rattle.tables.specs.Table.{named}
use Rattle.tables.specs.Place.{value}
use Rattle.normalize.specs.Normal.{modal}
use Rattle.columns.specs.Columns.{column_names, column_named}
use Rattle.model.specs.Contact.{Contact, contact}
use Rattle.model.specs.Answer.{is_part, is_entry, is_fit, is_placed, is_flagged, is_qso, no_columns, no_frequency, no_dxcc}
use Rattle.model.specs.declared.Qso.{Qso}
use Rattle.mapping.specs.Contact.{contact_of}
use Rattle.qsowriter.specs.Record.{field, column_fields, record_of}
use Rattle.qsowriter.specs.Writing.{contact_with, qso_text, extra_verdict, qso_verdict}
use Rattle.qsotrip.specs.Rewritten.{read_back}
use Rattle.qsotrip.specs.Theorems.{Sent}

-- an empty band, a band of the receiver without its frequency, a number with white space and a sign, a frequency that is none
abbrev before : List Field
before =
    field "AGE" (ascii "7")
    ∷ field "BAND" []
    ∷ field "BAND_RX" (ascii "40m")
    ∷ field "CALL" (ascii "W1AW")
    ∷ field "DXCC" (ascii " +007")
    ∷ field "FREQ" (ascii "x")
    ∷ field "SUBMODE" []
    ∷ []

rewritten : record_of (contact_of before)
    ≡ field "AGE" (ascii "7")
    ∷ field "CALL" (ascii "W1AW")
    ∷ field "DXCC" (ascii "7")
    ∷ field "MODE" []
    ∷ field "QSO_DATE" []
    ∷ field "SUBMODE" []
    ∷ field "TIME_ON" []
    ∷ []
unfolding record_of column_fields contact_of column_names column_named named same_raised raised decimal digits signed_of leads unsigned_of digits_of digits_after above_zero below_zero trimmed trim_start trim_end lead space_len space_back width space1 space2 space3 space80 read_hertz number_in unsigned_number is_infinity is_nan decimal_of whole_part fraction_part after_decimal pointed unsigned negative all_digits number_of
rewritten = refl

-- the band of the receiver is lost where its frequency is absent
abbrev lone : Contact
lone = record {
  call = ascii "W1AW";
  qso_date = [];
  time_on = [];
  band = [];
  mode = [];
  submode = None;
  freq = None;
  freq_rx = None;
  band_rx = Some (ascii "40m");
  rst_sent = None;
  rst_rcvd = None;
  gridsquare = None;
  dxcc = None;
  extra = [];
}

band_lost : (read_back lone).band_rx ≡ None
unfolding read_back
band_lost = refl

-- a contact of nothing but 14,074,001 Hz is sent, in a file with no header, to a table with room for its five fields
abbrev tuned : Qso
tuned = record { columns = no_columns; freq = record { given = 1; hz = 14_074_001 }; freq_rx = no_frequency; dxcc = no_dxcc }

sent : Sent
unfolding qso_verdict extra_verdict rows_of is_qso is_placed is_fit is_part is_entry is_flagged modal qso_text contact_with contact value record_of column_fields field_text six_decimals decimal digits
sent = record {
  text = [];
  qso = tuned;
  extra = [];
  count = 0;
  taken = refl;
  no_column = tt;
  front = bare;
  fits = tt;
  file = ascii "<CALL:0> <FREQ:9>14.074001 <MODE:0> <QSO_DATE:0> <TIME_ON:0> <EOR>" ++ (10 ∷ []);
  holds = refl;
  few = lit≤ tt;
  table = replicate 25 0;
  room = lit≤ tt;
}
