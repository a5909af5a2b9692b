-- Worked examples.
use Rattle.std.specs.Prelude.{◌≡◌, refl, [], ◌∷◌, ◌++◌, negsuc, Err, None, Some}
use Rattle.text.specs.Ascii.{ascii}
use Rattle.decimal.specs.Digits.{digits, decimal}
use Rattle.mhz.specs.Writing.{six_decimals}
use Rattle.refusals.specs.declared.Refusal.TheVariants.{FrequencyTooHigh}
use Rattle.tables.specs.Place.{value}
use Rattle.model.specs.Contact.{Contact, contact}
use Rattle.model.specs.Answer.{no_columns, no_frequency, no_dxcc, empty_qso}
use Rattle.qsowriter.specs.Record.{field, column_fields, record_of}
use Rattle.qsowriter.specs.Writing.{contact_with, qso_text, qso_verdict}
use Rattle.fields.specs.Written.{field_text}

-- a contact with a band of the receiver and no frequency there, and extra fields of which one is called MODE
abbrev example : Contact
example = record {
  call = ascii "W1AW";
  qso_date = [];
  time_on = [];
  band = [];
  mode = [];
  submode = None;
  freq = Some 7_100_000;
  freq_rx = None;
  band_rx = Some (ascii "40m");
  rst_sent = None;
  rst_rcvd = None;
  gridsquare = None;
  dxcc = Some (negsuc 6);
  extra = field "AGE" (ascii "7") ∷ field "BAND_RX" (ascii "x") ∷ field "MODE" (ascii "FM") ∷ field "ZZ" [] ∷ [];
}

-- no BAND; the extra BAND_RX, since the column is not written; the empty MODE of the column; all in byte order
its_record : record_of example
    ≡ field "AGE" (ascii "7")
    ∷ field "BAND_RX" (ascii "x")
    ∷ field "CALL" (ascii "W1AW")
    ∷ field "DXCC" (ascii "-7")
    ∷ field "FREQ" (ascii "7.100000")
    ∷ field "MODE" []
    ∷ field "QSO_DATE" []
    ∷ field "TIME_ON" []
    ∷ field "ZZ" []
    ∷ []
unfolding record_of column_fields decimal digits six_decimals
its_record = refl

-- an empty QSO
nothing_said : qso_text [] empty_qso [] ≡ ascii "<CALL:0> <MODE:0> <QSO_DATE:0> <TIME_ON:0> <EOR>" ++ (10 ∷ [])
unfolding qso_text contact_with contact value record_of column_fields field_text decimal digits
nothing_said = refl

-- 14 comes before 11
too_high : qso_verdict [] (record { columns = no_columns; freq = record { given = 1; hz = 8589934592000000 }; freq_rx = no_frequency; dxcc = no_dxcc }) [] 1
    ≡ Err FrequencyTooHigh
unfolding qso_verdict
too_high = refl
