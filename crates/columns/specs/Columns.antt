-- The thirteen columns of a contact: the fields that have a place of their own, by their numbers.
use Rattle.std.specs.Prelude.{ℕ, Bool, List, [], ◌∷◌, Option}
use Rattle.text.specs.Ascii.{ascii}
use Rattle.tables.specs.Table.{named, is_found}

abbrev pub call : ℕ
call = 0

abbrev pub qso_date : ℕ
qso_date = 1

abbrev pub time_on : ℕ
time_on = 2

abbrev pub band : ℕ
band = 3

abbrev pub mode : ℕ
mode = 4

abbrev pub submode : ℕ
submode = 5

abbrev pub freq : ℕ
freq = 6

abbrev pub freq_rx : ℕ
freq_rx = 7

abbrev pub band_rx : ℕ
band_rx = 8

abbrev pub rst_sent : ℕ
rst_sent = 9

abbrev pub rst_rcvd : ℕ
rst_rcvd = 10

abbrev pub gridsquare : ℕ
gridsquare = 11

abbrev pub dxcc : ℕ
dxcc = 12

unfoldable pub column_names : List (List ℕ)
column_names =
    ascii "CALL"
    ∷ ascii "QSO_DATE"
    ∷ ascii "TIME_ON"
    ∷ ascii "BAND"
    ∷ ascii "MODE"
    ∷ ascii "SUBMODE"
    ∷ ascii "FREQ"
    ∷ ascii "FREQ_RX"
    ∷ ascii "BAND_RX"
    ∷ ascii "RST_SENT"
    ∷ ascii "RST_RCVD"
    ∷ ascii "GRIDSQUARE"
    ∷ ascii "DXCC"
    ∷ []

-- the column that a field's name names, the case of letters aside
unfoldable pub column_named : List ℕ → Option ℕ
column_named name = named name column_names

-- all other fields are extra
abbrev pub is_column : List ℕ → Bool
is_column name = is_found (column_named name)
