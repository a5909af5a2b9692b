-- Worked examples, over the text " 40M usb".
use Rattle.std.specs.Prelude.{◌≡◌, refl, List, [], ℕ, negsuc, set, Ok, Some}
use Rattle.text.specs.Ascii.{ascii}
use Rattle.text.specs.Space.{space1, space2, space3, space80, space_len, space_back, width, trim_start, trim_end, trimmed}
use Rattle.text.specs.Utf8.{char_len, long_char, second3, second4, valid_up_to, utf8}
use Rattle.text.specs.Walk.{lead}
use Rattle.letters.specs.Capitals.{raised}
use Rattle.letters.specs.Same.{same_raised}
use Rattle.refusals.specs.declared.Refusal.TheVariants.{BadRow}
use Rattle.tables.specs.Table.{named}
use Rattle.tables.specs.Bands.{bands, band_names, band_for, band_named}
use Rattle.tables.specs.Modes.{modes, mode_names}
use Rattle.tables.specs.Place.{stands, band_entry, mode_entry, part, value, tidy}
use Rattle.normalize.specs.Modes.{submodes, aliases}
use Rattle.normalize.specs.Normal.{parent_entry, alias_entry, aliased_place, split_place, normal_places, modal}
use Rattle.columns.specs.Columns.{band, mode, band_rx}
use Rattle.model.specs.Contact.{contact, entity}
use Rattle.model.specs.Normal.{is_blank, canonical, normal_band, normal_band_rx, band_at, known_band, blank, normal_band_place, normal_band_rx_place, normal_columns, normal_qso}
use Rattle.model.specs.Answer.{is_part, is_entry, is_fit, is_flagged, is_placed, is_qso, no_columns, no_frequency, no_dxcc, accepted, refused, normalized_to}
use Rattle.model.specs.declared.Qso.{Qso}

abbrev text : List ℕ
text = ascii " 40M usb"

-- BAND is " 40M", MODE "usb"; received on 14.074 MHz
abbrev before : Qso
before = record {
  columns = set (set no_columns band (stands 0 4)) mode (stands 5 3);
  freq = no_frequency;
  freq_rx = record { given = 1; hz = 14074000 };
  dxcc = no_dxcc;
}

-- "40m", "SSB", and "20m" from the frequency
abbrev after : Qso
after = record {
  columns = set (set (set no_columns band (band_entry 5)) mode (mode_entry 0)) band_rx (band_entry 7);
  freq = no_frequency;
  freq_rx = record { given = 1; hz = 14074000 };
  dxcc = no_dxcc;
}

normalized : normalized_to text before ≡ accepted after
unfolding normalized_to is_qso is_flagged is_placed is_fit is_part is_entry modal utf8 valid_up_to char_len long_char second3 second4 lead band_names bands mode_names modes normal_qso normal_columns normal_places tidy part trimmed trim_start trim_end space_len space_back width space1 space2 space3 space80 split_place parent_entry alias_entry aliased_place named submodes aliases same_raised raised normal_band_place blank is_blank known_band band_named normal_band_rx_place band_at band_for
normalized = refl

-- what it says
said : (contact text after []).band ≡ ascii "40m"
unfolding contact value band_names bands
said = refl

-- "FOO " stays; a blank band is derived; a blank band_rx is not
unknown : normal_band (ascii "FOO ") (Some 7_100_000) ≡ ascii "FOO "
unfolding normal_band is_blank canonical band_named named band_names bands trimmed trim_start trim_end lead space_len space_back width space1 space2 space3 space80 same_raised raised
unknown = refl

derived : normal_band (ascii " ") (Some 7_100_000) ≡ ascii "40m"
unfolding normal_band is_blank band_for band_names bands trimmed trim_start trim_end lead space_len space_back width space1 space2 space3 space80
derived = refl

not_derived : normal_band_rx (Some (ascii " ")) (Some 7_100_000) ≡ Some (ascii " ")
unfolding normal_band_rx canonical band_named named band_names bands trimmed trim_start trim_end lead space_len space_back width space1 space2 space3 space80 same_raised raised
not_derived = refl

-- an entry that the table of bands has not comes back unchanged with 11
outside : normalized_to text (record { columns = set no_columns band (band_entry 19); freq = no_frequency; freq_rx = no_frequency; dxcc = no_dxcc })
    ≡ refused BadRow (record { columns = set no_columns band (band_entry 19); freq = no_frequency; freq_rx = no_frequency; dxcc = no_dxcc })
unfolding normalized_to is_qso is_flagged is_placed is_fit is_part is_entry band_names bands mode_names modes
outside = refl

minus_seven : entity (record { given = 1; negative = 1; size = 7 }) ≡ Some (negsuc 6)
minus_seven = refl

-- a flag that is neither 0 nor 1, each by itself: such a QSO comes back unchanged with 11, and no frequency is derived from it
abbrev flagged : ℕ → ℕ → ℕ → ℕ → Qso
flagged freq split given negative = record {
  columns = no_columns;
  freq = record { given = freq; hz = 7100000 };
  freq_rx = record { given = split; hz = 7100000 };
  dxcc = record { given = given; negative = negative; size = 0 };
}

flags_taken : (normalized_to text (flagged 0 0 0 1)).verdict ≡ Ok tt
unfolding normalized_to is_qso is_flagged is_placed is_fit is_entry modal
flags_taken = refl

freq_flag : normalized_to text (flagged 2 0 0 0) ≡ refused BadRow (flagged 2 0 0 0)
unfolding normalized_to is_qso is_flagged
freq_flag = refl

freq_rx_flag : normalized_to text (flagged 0 3 0 0) ≡ refused BadRow (flagged 0 3 0 0)
unfolding normalized_to is_qso is_flagged
freq_rx_flag = refl

dxcc_flag : normalized_to text (flagged 0 0 255 0) ≡ refused BadRow (flagged 0 0 255 0)
unfolding normalized_to is_qso is_flagged
dxcc_flag = refl

negative_flag : normalized_to text (flagged 0 0 0 2) ≡ refused BadRow (flagged 0 0 0 2)
unfolding normalized_to is_qso is_flagged
negative_flag = refl
