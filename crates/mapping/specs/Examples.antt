-- Worked examples, over the text "band40m  dxcc-7foo".
use Rattle.std.specs.Prelude.{◌≡◌, refl, List, [], ◌∷◌, ℕ, negsuc, set, Some}
use Rattle.text.specs.Ascii.{ascii}
use Rattle.text.specs.Space.{space1, space2, space3, space80, space_len, space_back, width, trim_start, trim_end, trimmed}
use Rattle.text.specs.Utf8.{char_len, long_char, second3, second4, valid_up_to, utf8}
use Rattle.text.specs.Walk.{lead}
use Rattle.letters.specs.Capitals.{raised}
use Rattle.letters.specs.Same.{same_raised}
use Rattle.letters.specs.Order.{order_raised}
use Rattle.decimal.specs.Decimal.{digits_after, digits_of, leads, unsigned_of, above_zero, below_zero, signed_of}
use Rattle.mhz.specs.Digits.{number_of}
use Rattle.mhz.specs.Number.{negative, unsigned, pointed, whole_part, fraction_part, after_decimal, all_digits, decimal_of, is_infinity, is_nan, unsigned_number, number_in}
use Rattle.mhz.specs.Reading.{read_hertz}
use Rattle.mhz.specs.declared.Hz.TheVariants.{Is, Outside}
use Rattle.refusals.specs.declared.Refusal.TheVariants.{BadRow, InexactFrequency}
use Rattle.rowcheck.specs.Check.{placed, sound}
use Rattle.tables.specs.Table.{named}
use Rattle.tables.specs.Place.{stands, part, tidy}
use Rattle.normalize.specs.Modes.{submodes, aliases}
use Rattle.normalize.specs.Normal.{parent_entry, alias_entry, aliased_place, split_place, normal_places}
use Rattle.adif.specs.Grammar.{Field}
use Rattle.columns.specs.Columns.{column_names, column_named, band, dxcc}
use Rattle.model.specs.Normal.{band_at, blank, normal_band_place, normal_band_rx_place, normal_columns, normal_qso}
use Rattle.model.specs.Answer.{no_columns, no_frequency, no_dxcc, empty_qso, accepted, refused}
use Rattle.mapping.specs.Contact.{contact_of}
use Rattle.mapping.specs.Mapping.{columns_of, dxcc_at, qso_with, answer_with, answer_over, mapped, is_row, rises, is_record, mapped_to, with_normal}

abbrev text : List ℕ
text = ascii "band40m  dxcc-7foo"

-- record 3: band is "40m  ", dxcc "-7", foo is empty; a fourth row of record 4
abbrev table : List ℕ
table = 3 ∷ 0 ∷ 4 ∷ 4 ∷ 5 ∷ 3 ∷ 9 ∷ 4 ∷ 13 ∷ 2 ∷ 3 ∷ 15 ∷ 3 ∷ 0 ∷ 0 ∷ 4 ∷ 15 ∷ 3 ∷ 0 ∷ 0 ∷ []

three_rows : mapped_to text table 0 3
    ≡ accepted (record {
      columns = set (set no_columns band (stands 4 5)) dxcc (stands 13 2);
      freq = no_frequency;
      freq_rx = no_frequency;
      dxcc = record { given = 1; negative = 1; size = 7 };
    })
unfolding mapped_to is_record is_row rises placed sound utf8 valid_up_to char_len long_char second3 second4 lead order_raised mapped columns_of column_names same_raised raised answer_over answer_with part read_hertz number_in unsigned_number is_infinity is_nan decimal_of whole_part fraction_part after_decimal pointed unsigned negative all_digits number_of qso_with dxcc_at signed_of leads unsigned_of digits_of digits_after above_zero below_zero trimmed trim_start trim_end space_len space_back width space1 space2 space3 space80
three_rows = refl

-- two records; rows out of order; a row more than the table has
two_records : mapped_to text table 2 2 ≡ refused BadRow empty_qso
unfolding mapped_to is_record is_row rises placed sound utf8 valid_up_to char_len long_char second3 second4 lead
two_records = refl

past_the_table : mapped_to text table 2 3 ≡ refused BadRow empty_qso
unfolding mapped_to
past_the_table = refl

-- 15: both frequencies are absent
outside : answer_with [] no_columns (Is 7000000) Outside ≡ refused InexactFrequency (record { columns = no_columns; freq = no_frequency; freq_rx = no_frequency; dxcc = no_dxcc })
unfolding answer_with qso_with dxcc_at part signed_of leads unsigned_of digits_of above_zero trimmed trim_start trim_end lead space_len space_back width space1 space2 space3 space80
outside = refl

-- the same as bytes
abbrev fields : List Field
fields = record { name = ascii "BAND"; value = ascii "40m  " } ∷ record { name = ascii "DXCC"; value = ascii "-7" } ∷ record { name = ascii "FOO"; value = [] } ∷ []

its_entity : (contact_of fields).dxcc ≡ Some (negsuc 6)
unfolding contact_of column_names signed_of leads digits_of digits_after below_zero trimmed trim_start trim_end lead space_len space_back width space1 space2 space3 space80
its_entity = refl

its_extra : (contact_of fields).extra ≡ record { name = ascii "FOO"; value = [] } ∷ []
unfolding contact_of column_named column_names named same_raised raised
its_extra = refl

-- the empty QSO is normal
still_empty : with_normal text (refused BadRow empty_qso) ≡ refused BadRow empty_qso
unfolding normal_qso normal_columns normal_places tidy part split_place parent_entry alias_entry aliased_place named submodes aliases same_raised raised normal_band_place blank normal_band_rx_place band_at
still_empty = refl
