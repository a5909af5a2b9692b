-- A contact as a record, as rigflow's `qso_to_record`: the fields of its columns and its extra fields, in byte order of their names.
use Rattle.std.specs.Prelude.{ℕ, suc, List, [], ◌∷◌, ◌++◌, ℤ, pos, negsuc, Option, None, Some}
use Prim.Native.String.{String}
use Rattle.text.specs.Ascii.{ascii}
use Rattle.decimal.specs.Digits.{decimal}
use Rattle.mhz.specs.Writing.{mhz_text}
use Rattle.adif.specs.Grammar.{Field}
use Rattle.normalize.specs.Normal.{unless_empty}
use Rattle.model.specs.Contact.{Contact}
pub use Rattle.merge.specs.Merge.{below, above, merged}

-- the field of a column: always, or where there is a value
abbrev pub field : String → List ℕ → Field
field name value = record { name = ascii name; value = value }

abbrev pub always : String → List ℕ → List Field
always name value = field name value ∷ []

abbrev pub given : String → Option (List ℕ) → List Field
given name None = []
given name (Some value) = always name value

-- a frequency is written in megahertz with six decimals
abbrev pub megahertz : Option ℕ → Option (List ℕ)
megahertz None = None
megahertz (Some hz) = Some (mhz_text hz)

-- the band of the receiver is written only where its frequency is
abbrev pub split_only : Option ℕ → Option (List ℕ) → Option (List ℕ)
split_only None b = None
split_only (Some hz) b = b

abbrev pub signed_text : ℤ → List ℕ
signed_text (pos n) = decimal n
signed_text (negsuc n) = 0x2D ∷ decimal (suc n)

abbrev pub entity_text : Option ℤ → Option (List ℕ)
entity_text None = None
entity_text (Some n) = Some (signed_text n)

-- CALL, QSO_DATE, TIME_ON and MODE are always written, even empty; an empty BAND is dropped
unfoldable pub column_fields : Contact → List Field
column_fields c =
    given "BAND" (unless_empty c.band)
    ++ (given "BAND_RX" (split_only c.freq_rx c.band_rx)
    ++ (always "CALL" c.call
    ++ (given "DXCC" (entity_text c.dxcc)
    ++ (given "FREQ" (megahertz c.freq)
    ++ (given "FREQ_RX" (megahertz c.freq_rx)
    ++ (given "GRIDSQUARE" c.gridsquare
    ++ (always "MODE" c.mode
    ++ (always "QSO_DATE" c.qso_date
    ++ (given "RST_RCVD" c.rst_rcvd
    ++ (given "RST_SENT" c.rst_sent
    ++ (given "SUBMODE" c.submode
    ++ always "TIME_ON" c.time_on)))))))))))

-- a column wins over an extra field of its name
unfoldable pub record_of : Contact → List Field
record_of c = merged (column_fields c) c.extra
