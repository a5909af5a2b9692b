-- Worked examples.
use Rattle.std.specs.Prelude.{◌≡◌, refl, true, []}
use Rattle.text.specs.Ascii.{ascii}
use Rattle.decimal.specs.Digits.{digits, decimal}
use Rattle.tables.specs.Bands.{bands, band_names}
use Rattle.tables.specs.Modes.{modes, mode_names}
use Rattle.tables.specs.Place.{stands, band_entry, part, value}
use Rattle.model.specs.Answer.{no_frequency}
use Rattle.cells.specs.Cells.{number_text, has_value, words_cell, band_cell, split_cell}
use Rattle.cells.specs.declared.Cell.TheVariants.{Dropped, Words}

-- -7, and minus zero
minus_seven : number_text true 7 ≡ ascii "-7"
unfolding decimal digits
minus_seven = refl

minus_zero : number_text true 0 ≡ ascii "0"
unfolding decimal digits
minus_zero = refl

-- an empty BAND is dropped; an empty part elsewhere is written
empty_band : band_cell [] (stands 0 0) ≡ Dropped
unfolding band_cell value part
empty_band = refl

empty_words : words_cell (stands 0 0) ≡ Words (stands 0 0)
unfolding words_cell has_value
empty_words = refl

-- BAND_RX without FREQ_RX
not_split : split_cell (band_entry 5) no_frequency ≡ Dropped
unfolding split_cell
not_split = refl

-- an entry that the table of bands has not
no_entry_lem : words_cell (band_entry 19) ≡ Dropped
unfolding words_cell has_value band_names bands mode_names modes
no_entry_lem = refl
