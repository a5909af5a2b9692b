-- Worked examples.
use Rattle.std.specs.Prelude.{◌≡◌, refl, true, false, [], ◌∷◌}
use Rattle.text.specs.Walk.{lead, ends}
use Rattle.text.specs.Find.{other}
use Rattle.text.specs.Utf8.{valid_up_to, char_len, long_char, second3, second4, utf8}
use Rattle.text.specs.Space.{space1, space2, space3, space80, width, space_len, space_back, trim_start, trim_end, trimmed, blank}

-- "é" is one character of two bytes; its first byte alone is none
e_acute : valid_up_to (0xC3 ∷ 0xA9 ∷ []) ≡ 2
unfolding valid_up_to lead char_len long_char second3 second4
e_acute = refl

half : valid_up_to (65 ∷ 0xC3 ∷ []) ≡ 1
unfolding valid_up_to lead char_len long_char second3 second4
half = refl

-- U+D7FF is the last character before the surrogates, which begin with ED A0
before_surrogates : utf8 (0xED ∷ 0x9F ∷ 0xBF ∷ []) ≡ true
unfolding utf8 valid_up_to lead char_len long_char second3 second4
before_surrogates = refl

surrogate : utf8 (0xED ∷ 0xA0 ∷ 0x80 ∷ []) ≡ false
unfolding utf8 valid_up_to lead char_len long_char second3 second4
surrogate = refl

-- "/" in two bytes is overlong
overlong : utf8 (0xC0 ∷ 0xAF ∷ []) ≡ false
unfolding utf8 valid_up_to lead char_len long_char second3 second4
overlong = refl

-- U+10FFFF is the last, and F4 90 is above it
last : utf8 (0xF4 ∷ 0x8F ∷ 0xBF ∷ 0xBF ∷ []) ≡ true
unfolding utf8 valid_up_to lead char_len long_char second3 second4
last = refl

above : utf8 (0xF4 ∷ 0x90 ∷ 0x80 ∷ 0x80 ∷ []) ≡ false
unfolding utf8 valid_up_to lead char_len long_char second3 second4
above = refl

-- a tab, "A", U+3000
trimmed_both_ends : trimmed (9 ∷ 65 ∷ 0xE3 ∷ 0x80 ∷ 0x80 ∷ []) ≡ 65 ∷ []
unfolding trimmed trim_start trim_end lead space_len space_back width space1 space2 space3 space80
trimmed_both_ends = refl

-- U+200B, the zero width space, is no white space
zero_width : blank (0xE2 ∷ 0x80 ∷ 0x8B ∷ []) ≡ false
unfolding blank trim_start lead space_len width space1 space2 space3 space80
zero_width = refl

-- ">" in "A>B" from 0 on, and from 2 on, where there is none
found : ends (other 62) (65 ∷ 62 ∷ 66 ∷ []) 0 ≡ 1
unfolding ends lead other
found = refl

not_found : ends (other 62) (65 ∷ 62 ∷ 66 ∷ []) 2 ≡ 3
unfolding ends lead other
not_found = refl
