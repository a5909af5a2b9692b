-- A worked example: the row of a record. Its text is laid one part after the other.
use Rattle.std.specs.Prelude.{◌≡◌, refl, List, [], ◌∷◌, ℕ}
use Rattle.text.specs.Ascii.{ascii}
use Rattle.text.specs.Space.{space1, space2, space80, space3, width, space_len, space_back, trim_start, trim_end, trimmed, blank}
use Rattle.text.specs.Walk.{lead}
use Rattle.letters.specs.Capitals.{raised}
use Rattle.letters.specs.Same.{same_raised}
use Rattle.decimal.specs.Decimal.{digits_after, digits_of, leads, unsigned_of, above_zero, below_zero, signed_of}
use Rattle.mhz.specs.Digits.{number_of}
use Rattle.mhz.specs.Number.{negative, unsigned, pointed, whole_part, fraction_part, after_decimal, all_digits, decimal_of, is_infinity, is_nan, unsigned_number, number_in}
use Rattle.mhz.specs.Reading.{read_hertz}
use Rattle.tables.specs.Bands.{bands, band_names, band_for, band_named}
use Rattle.tables.specs.Modes.{modes, mode_names}
use Rattle.tables.specs.Place.{part, value, tidy}
use Rattle.tables.specs.Table.{named}
use Rattle.normalize.specs.Modes.{submodes, aliases}
use Rattle.normalize.specs.Normal.{parent_entry, alias_entry, aliased_place, split_place, normal_places}
use Rattle.columns.specs.Columns.{column_names}
use Rattle.model.specs.Normal.{is_blank, band_at, known_band, blank as blankPlace, normal_band_place, normal_band_rx_place, normal_columns, normal_qso}
use Rattle.mapping.specs.Mapping.{columns_of, dxcc_at, qso_with, answer_with, answer_over, mapped}
use Rattle.times.specs.Calendar.{leap, year_days, month_days, days_before_year, days_before_month, is_day, day_number}
use Rattle.times.specs.Moments.{date_of, clock_of, is_clock, seconds_of, moment_at, moment_of}
use Rattle.contacts.specs.Contacts.{is_date, is_time}
use Rattle.index.specs.Rows.{low, high, has_moment, seconds_in, mix, code_of}
use Rattle.confirmations.specs.Confirmations.{says, date_at, answered, attributed, stood, answers_of}
use Rattle.usable.specs.Reasons.{reason_by, reason_of, reason_in}
use Rattle.entries.specs.Row.{file_code, row_of, row_with, entry_row}

abbrev text : List ℕ
text = ascii "w1aw 202603011200usbCALLMODEQSO_DATEQSL_RCVDTIME_ONY"

-- CALL is "w1aw ", MODE "usb", QSL_RCVD "Y": the code is that of "W1AW" and "SSB", the mode is entry 0 of its table, a card confirms, and
-- the moment has 14 times 2^32 seconds and some
record_of_five : entry_row text ((1 ∷ 20 ∷ 4 ∷ 0 ∷ 5 ∷ []) ∷ (1 ∷ 24 ∷ 4 ∷ 17 ∷ 3 ∷ []) ∷ (1 ∷ 36 ∷ 8 ∷ 51 ∷ 1 ∷ []) ∷ (1 ∷ 28 ∷ 8 ∷ 5 ∷ 8 ∷ []) ∷ (1 ∷ 44 ∷ 7 ∷ 13 ∷ 4 ∷ []) ∷ []) 7 5
    ≡ 0 ∷ 0 ∷ 0 ∷ 0 ∷ 2402321592
    ∷ 1 ∷ 0 ∷ 5
    ∷ 4 ∷ 0 ∷ 0
    ∷ 0 ∷ 0 ∷ 0
    ∷ 1 ∷ 5 ∷ 8
    ∷ 1 ∷ 3810043456 ∷ 14
    ∷ 7 ∷ 5 ∷ 0 ∷ 1 ∷ 0 ∷ 0 ∷ 0 ∷ 0 ∷ []
unfolding entry_row row_with row_of file_code code_of mix low high has_moment seconds_in reason_in reason_of reason_by is_date is_time moment_of moment_at date_of clock_of is_clock seconds_of leap year_days month_days days_before_year days_before_month is_day day_number answers_of says date_at answered attributed stood mapped answer_over answer_with qso_with dxcc_at columns_of column_names normal_qso normal_columns normal_band_place normal_band_rx_place blankPlace is_blank band_at known_band normal_places split_place aliased_place parent_entry alias_entry submodes aliases named tidy part value bands band_names band_for band_named modes mode_names read_hertz number_in unsigned_number is_infinity is_nan decimal_of whole_part fraction_part after_decimal pointed unsigned negative all_digits number_of signed_of leads unsigned_of digits_of digits_after above_zero below_zero same_raised raised trimmed trim_start trim_end blank lead space_len space_back width space1 space2 space3 space80
record_of_five = refl
