-- Worked examples.
use Rattle.std.specs.Prelude.{◌≡◌, refl, [], Some, None}
use Rattle.text.specs.Ascii.{ascii}
use Rattle.text.specs.Space.{space1, space2, space3, space80, space_len, space_back, width, trim_start, trim_end, trimmed}
use Rattle.text.specs.Walk.{lead}
use Rattle.letters.specs.Capitals.{raised}
use Rattle.letters.specs.Same.{same_raised}
use Rattle.tables.specs.Table.{named}
use Rattle.tables.specs.Bands.{bands, band_names, band_for, band_named}
use Rattle.tables.specs.Place.{band_entry, value}

-- 7300000 Hz is 40m, and 7300001 Hz is in no band
forty : band_for 7_300_000 ≡ Some 5
unfolding band_for bands
forty = refl

above_forty : band_for 7_300_001 ≡ None
unfolding band_for bands
above_forty = refl

forty_name : value [] (band_entry 5) ≡ Some (ascii "40m")
unfolding value band_names bands
forty_name = refl

-- " 40M" names it
forty_named : band_named (ascii " 40M") ≡ Some 5
unfolding band_named named band_names bands trimmed trim_start trim_end lead space_len space_back width space1 space2 space3 space80 same_raised raised
forty_named = refl
