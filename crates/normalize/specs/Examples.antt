-- Worked examples.
use Rattle.std.specs.Prelude.{◌≡◌, refl, Some, None}
use Rattle.text.specs.Ascii.{ascii}
use Rattle.text.specs.Space.{space1, space2, space3, space80, space_len, space_back, width, trim_start, trim_end, trimmed}
use Rattle.text.specs.Walk.{lead}
use Rattle.letters.specs.Capitals.{raised}
use Rattle.letters.specs.Same.{same_raised}
use Rattle.tables.specs.Table.{named}
use Rattle.tables.specs.Modes.{modes, mode_names}
use Rattle.normalize.specs.Modes.{submodes, aliases}
use Rattle.normalize.specs.Classes.{classes, class_named, class_of, modes_in, span_of}
use Rattle.tables.specs.Place.{absent, stands, in_capitals, mode_entry, part, tidy}
use Rattle.normalize.specs.Normal.{tidied, parent_of, aliased, normal, parent_entry, alias_entry, aliased_place, split_place, normal_places}
use Rattle.tables.specs.declared.ModeClass.TheVariants.{Phone, Digital, Image}

-- "usb" is SSB
sideband : normal (ascii "usb") None ≡ record { mode = ascii "SSB"; submode = None }
unfolding normal tidied parent_of aliased submodes aliases trimmed trim_start trim_end lead space_len space_back width space1 space2 space3 space80 raised
sideband = refl

-- "ft4" as a mode splits
split : normal (ascii "ft4 ") None ≡ record { mode = ascii "MFSK"; submode = Some (ascii "FT4") }
unfolding normal tidied parent_of aliased submodes aliases trimmed trim_start trim_end lead space_len space_back width space1 space2 space3 space80 raised
split = refl

-- a submode sets its parent, whatever the mode; an unknown one keeps the mode, with its alias; a blank one counts as absent
wins : normal (ascii "RTTY") (Some (ascii "psk31")) ≡ record { mode = ascii "PSK"; submode = Some (ascii "PSK31") }
unfolding normal tidied parent_of aliased submodes aliases trimmed trim_start trim_end lead space_len space_back width space1 space2 space3 space80 raised
wins = refl

keeps : normal (ascii "LSB") (Some (ascii "x")) ≡ record { mode = ascii "SSB"; submode = Some (ascii "X") }
unfolding normal tidied parent_of aliased submodes aliases trimmed trim_start trim_end lead space_len space_back width space1 space2 space3 space80 raised
keeps = refl

blank : normal (ascii "cw") (Some (ascii " ")) ≡ record { mode = ascii "CW"; submode = None }
unfolding normal tidied parent_of aliased submodes aliases trimmed trim_start trim_end lead space_len space_back width space1 space2 space3 space80 raised
blank = refl

-- the same as places: in the text "x ft4 y" the mode from 1 on, of five bytes
split_places : normal_places (ascii "x ft4 y") (stands 1 5) (ascii "x ft4 y") absent ≡ record { mode = mode_entry 6; submode = in_capitals 2 3 }
unfolding normal_places split_place aliased_place parent_entry alias_entry tidy part named mode_names modes submodes aliases trimmed trim_start trim_end lead space_len space_back width space1 space2 space3 space80 same_raised raised
split_places = refl

class_of_ft8 : class_of (ascii "ft8") ≡ Some Digital
unfolding class_of named mode_names modes trimmed trim_start trim_end lead space_len space_back width space1 space2 space3 space80 same_raised raised
class_of_ft8 = refl

class_name_lem : class_named (ascii "Image ") ≡ Some Image
unfolding class_named classes named trimmed trim_start trim_end lead space_len space_back width space1 space2 space3 space80 same_raised raised
class_name_lem = refl

no_class : class_named (ascii "data") ≡ None
unfolding class_named classes named trimmed trim_start trim_end lead space_len space_back width space1 space2 space3 space80 same_raised raised
no_class = refl

voices : span_of Phone ≡ record { first = 0; count = 4 }
unfolding span_of modes_in modes
voices = refl
