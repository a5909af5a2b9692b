-- The example of `showplan` in docs/SCOPE.md: its text, planned against an empty list at 1800.
use Rattle.std.specs.Prelude.{◌≡◌, refl, false, List, [], ◌∷◌, ◌++◌, ℕ, pos}
use Rattle.std.specs.Float.Ieee.{lt as ieee-lt, round, mul}
use Rattle.text.specs.Ascii.{ascii}
use Rattle.text.specs.Find.{other}
use Rattle.text.specs.Run.{run}
use Rattle.text.specs.Space.{space1, space2, space80, space3, width, space_len, space_back, trim_start, trim_end, trimmed, blank}
use Rattle.text.specs.Utf8.{second3, second4, long_char, char_len, valid_up_to, utf8}
use Rattle.text.specs.Walk.{lead, ends}
use Rattle.letters.specs.Capitals.{raised}
use Rattle.letters.specs.Order.{order_raised}
use Rattle.letters.specs.Same.{same_raised}
use Rattle.decimal.specs.Decimal.{digits_after, digits_of, leads, unsigned_of, above_zero, below_zero, signed_of}
use Rattle.decimal.specs.Digits.{digits, decimal}
use Rattle.hertz.specs.Value.{parsed, signed}
use Rattle.hertz.specs.Whole.{rounded, to_hz, below_zero as belowZero-in-hertz-Whole, millionths}
use Rattle.mhz.specs.Digits.{number_of}
use Rattle.mhz.specs.Number.{negative, unsigned, pointed, whole_part, fraction_part, after_decimal, all_digits, decimal_of, is_infinity, is_nan, unsigned_number, number_in}
use Rattle.mhz.specs.Reading.{up, down, near, in_window, hertz_of, decimal_hertz, read_hertz}
use Rattle.mhz.specs.Steps.{grown, power_held, scaled_hertz, word_hertz}
use Rattle.mhz.specs.Writing.{six_decimals, formatted, answer_to}
use Rattle.refusals.specs.Refusals.{of_text, of_texts}
use Rattle.tags.specs.Tags.{kind_of, colon_at, name_at, name_length, name_place, name_of, length_after, value_of, by_kind, tag_of, closed_at, open_at, tag_at}
use Rattle.adif.specs.Reading.{row_name, row_value, read_tags, read_text}
use Rattle.tables.specs.Bands.{bands, band_names, bounded, band_for, band_named, every_band}
use Rattle.tables.specs.Modes.{modes, mode_names}
use Rattle.tables.specs.Place.{part, value, name_at as nameAt-in-tables-Place, name_of as nameOf-in-tables-Place, tidy}
use Rattle.tables.specs.Table.{named, cut, key_of}
use Rattle.normalize.specs.Classes.{classes, class_numbered, class_named, class_of, modes_in, span_of}
use Rattle.normalize.specs.Modes.{submodes, aliases}
use Rattle.normalize.specs.Normal.{tidied, parent_of, aliased, normal, parent_of_key, alias_of_key, parent_entry, alias_entry, aliased_place, split_place, normal_places, modal}
use Rattle.columns.specs.Columns.{column_names, column_named}
use Rattle.model.specs.Contact.{contact}
use Rattle.model.specs.Normal.{canonical, is_blank, normal_band, normal_band_rx, normal_contact, band_at, known_band, blank as blank-in-model-Normal, normal_band_place, normal_band_rx_place, normal_columns, normal_qso}
use Rattle.mapping.specs.Contact.{contact_of}
use Rattle.mapping.specs.Mapping.{columns_of, dxcc_at, qso_with, answer_with, answer_over, mapped, is_row, rises, is_record, mapped_to}
use Rattle.times.specs.Calendar.{leap, year_days, month_days, days_before_year, days_before_month, is_day, day_number}
use Rattle.times.specs.Moments.{date_of, clock_of, is_clock, seconds_of, moment_at, moment_of}
use Rattle.times.specs.Window.{apart, reaches, is_within, limit_of}
use Rattle.dedupe.specs.Keys.{in_log, in_file, natural_key, duplicate}
use Rattle.contacts.specs.Contacts.{plain, is_date, is_time, sound_head, sound_texts, sound, sound_from, bytes_of, body_text, entry_text, entries_text, list_text, largest}
use Rattle.chain.specs.Chain.{over}
use Rattle.search.specs.Search.{first_from}
use Rattle.confirmations.specs.Confirmations.{says, date_at, answered, attributed, stood, answers_of}
use Rattle.usable.specs.Reasons.{reason_by, reason_of, reason_in}
use Rattle.plan.specs.Entry.{entry_with, entry_of, entries_of}
use Rattle.plan.specs.Fates.{matches, found, fate_of, repeats, fate_at, fates_to, count}
use Rattle.plan.specs.Confirmed.{has_bit, same_unmatched, alike, counts, counted_at, new_at, old_at, new_to, already_to, unmatched_to}
use Rattle.plan.specs.Plan.{plan_from, planned, plan_of, counts_of}

abbrev text : List ℕ
text =
    ascii "<CALL:4>W1AW<QSO_DATE:8>20260301<TIME_ON:4>1200<BAND:3>40M<MODE:3>USB<EOR>"
    ++ (ascii "<CALL:4>w1aw<QSO_DATE:8>20260301<TIME_ON:6>123000<FREQ:5>7.150<MODE:3>SSB<EOR>" ++ ascii "<QSO_DATE:8>20260301<EOR>")

shown : plan_of (pos 1800) false [] text 3000 ≡ record { fates = 1 ∷ 3 ∷ 4 ∷ []; reasons = 0 ∷ 0 ∷ 1 ∷ []; confirmations = []; already = 0; unmatched = 0; contacts = 0; largest = 0 }
unfolding other run space1 space2 space80 space3 width space_len space_back trim_start trim_end trimmed blank second3 second4 long_char char_len valid_up_to utf8 lead ends raised order_raised same_raised digits_after digits_of leads unsigned_of above_zero below_zero signed_of digits decimal parsed signed rounded to_hz belowZero-in-hertz-Whole millionths number_of negative unsigned pointed whole_part fraction_part after_decimal all_digits decimal_of is_infinity is_nan unsigned_number number_in up down near in_window hertz_of decimal_hertz read_hertz grown power_held scaled_hertz word_hertz six_decimals formatted answer_to of_text of_texts kind_of colon_at name_at name_length name_place name_of length_after value_of by_kind tag_of closed_at open_at tag_at row_name row_value read_tags read_text bands band_names bounded band_for band_named every_band modes mode_names part value nameAt-in-tables-Place nameOf-in-tables-Place tidy named cut key_of classes class_numbered class_named class_of modes_in span_of submodes aliases tidied parent_of aliased normal parent_of_key alias_of_key parent_entry alias_entry aliased_place split_place normal_places modal column_names column_named contact canonical is_blank normal_band normal_band_rx normal_contact band_at known_band blank-in-model-Normal normal_band_place normal_band_rx_place normal_columns normal_qso contact_of columns_of dxcc_at qso_with answer_with answer_over mapped is_row rises is_record mapped_to leap year_days month_days days_before_year days_before_month is_day day_number date_of clock_of is_clock seconds_of moment_at moment_of apart reaches is_within limit_of in_log in_file natural_key duplicate plain is_date is_time sound_head sound_texts sound sound_from bytes_of body_text entry_text entries_text list_text largest over says date_at answered attributed stood answers_of reason_by reason_of reason_in entry_with entry_of entries_of matches first_from found fate_of repeats fate_at fates_to count has_bit same_unmatched alike counts counted_at new_at old_at new_to already_to unmatched_to plan_from planned plan_of counts_of ieee-lt round mul
shown = refl
