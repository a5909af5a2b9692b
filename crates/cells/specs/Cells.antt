-- What each column of a QSO writes: nothing, or the bytes that a cell says. The columns stand in byte order of their names.
use Rattle.std.specs.Prelude.{ℕ, Bool, true, false, List, [], ◌∷◌, eqb, ltb, length, Option, None, Some}
use Rattle.text.specs.Ascii.{ascii}
use Rattle.text.specs.Pick.{pick, both, either}
use Rattle.decimal.specs.Digits.{decimal}
use Rattle.mhz.specs.Writing.{mhz_text}
use Rattle.adif.specs.Grammar.{Field}
use Rattle.tables.specs.Bands.{band_names}
use Rattle.tables.specs.Modes.{mode_names}
use Rattle.tables.specs.Place.{in_text, bytes}
use Rattle.tables.specs.declared.Place.{Place}
use Rattle.columns.specs.Columns.{call, qso_date, time_on, band, mode, submode, band_rx, rst_sent, rst_rcvd, gridsquare}
use Rattle.model.specs.Flags.{is_yes}
use Rattle.model.specs.Contact.{place_of}
use Rattle.model.specs.declared.Dxcc.{Dxcc}
use Rattle.model.specs.declared.Frequency.{Frequency}
use Rattle.model.specs.declared.Qso.{Qso}
use Rattle.cells.specs.declared.Cell.{Cell}
use Rattle.cells.specs.declared.Cell.TheVariants.{Dropped, Words, Megahertz, Number}

-- the names of the columns in byte order
unfoldable pub column_order : List (List ℕ)
column_order =
    ascii "BAND"
    ∷ ascii "BAND_RX"
    ∷ ascii "CALL"
    ∷ ascii "DXCC"
    ∷ ascii "FREQ"
    ∷ ascii "FREQ_RX"
    ∷ ascii "GRIDSQUARE"
    ∷ ascii "MODE"
    ∷ ascii "QSO_DATE"
    ∷ ascii "RST_RCVD"
    ∷ ascii "RST_SENT"
    ∷ ascii "SUBMODE"
    ∷ ascii "TIME_ON"
    ∷ []

-- a signed number in decimal; there is no minus zero
abbrev pub number_text : Bool → ℕ → List ℕ
number_text negative n = pick (both negative (ltb 0 n)) (0x2D ∷ decimal n) (decimal n)

-- the bytes of a cell, and whether it has any
abbrev pub cell_text : List ℕ → Cell → List ℕ
cell_text text Dropped = []
cell_text text (Words p) = bytes text p
cell_text text (Megahertz hz) = mhz_text hz
cell_text text (Number negative n) = number_text negative n

abbrev pub is_dropped : Cell → Bool
is_dropped Dropped = true
is_dropped (Words p) = false
is_dropped (Megahertz hz) = false
is_dropped (Number negative n) = false

abbrev pub said : List ℕ → Cell → Option (List ℕ)
said text cell = pick (is_dropped cell) None (Some (cell_text text cell))

-- a place that stands for bytes: a part of the text, or an entry that its table has
unfoldable pub has_value : Place → Bool
has_value p =
    either (in_text p) (either (both (eqb p.kind 3) (ltb p.start (length band_names))) (both (eqb p.kind 4) (ltb p.start (length mode_names))))

unfoldable pub words_cell : Place → Cell
words_cell p = pick (has_value p) (Words p) Dropped

unfoldable pub band_cell : List ℕ → Place → Cell
band_cell text p = pick (eqb (length (bytes text p)) 0) Dropped (Words p)

unfoldable pub split_cell : Place → Frequency → Cell
split_cell p f = pick (is_yes f.given) (words_cell p) Dropped

unfoldable pub megahertz_cell : Frequency → Cell
megahertz_cell f = pick (is_yes f.given) (Megahertz f.hz) Dropped

unfoldable pub entity_cell : Dxcc → Cell
entity_cell d = pick (is_yes d.given) (Number (is_yes d.negative) d.size) Dropped

-- the cells of a QSO, in the order of the names
unfoldable pub cells_of : List ℕ → Qso → List Cell
cells_of text q =
    band_cell text (place_of q band)
    ∷ split_cell (place_of q band_rx) q.freq_rx
    ∷ Words (place_of q call)
    ∷ entity_cell q.dxcc
    ∷ megahertz_cell q.freq
    ∷ megahertz_cell q.freq_rx
    ∷ words_cell (place_of q gridsquare)
    ∷ Words (place_of q mode)
    ∷ Words (place_of q qso_date)
    ∷ words_cell (place_of q rst_rcvd)
    ∷ words_cell (place_of q rst_sent)
    ∷ words_cell (place_of q submode)
    ∷ Words (place_of q time_on)
    ∷ []

-- the fields of cells, each with its name
abbrev pub cell_fields : List ℕ → List (List ℕ) → List Cell → List Field
cell_fields text [] cells = []
cell_fields text (n ∷ ns) [] = []
cell_fields text (n ∷ ns) (c ∷ cs) = pick (is_dropped c) (cell_fields text ns cs) (record { name = n; value = cell_text text c } ∷ cell_fields text ns cs)
