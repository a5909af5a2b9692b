-- Worked examples.
use Rattle.std.specs.Prelude.{◌≡◌, refl, List, [], ◌∷◌, ℕ, Ok, Err}
use Rattle.text.specs.Walk.{lead, ends}
use Rattle.text.specs.Find.{other}
use Rattle.text.specs.Space.{space1, space2, space3, space80, space_len, space_back, width, trim_start, trim_end}
use Rattle.text.specs.Utf8.{char_len, long_char, second3, second4, valid_up_to, utf8}
use Rattle.letters.specs.Capitals.{raised}
use Rattle.letters.specs.Same.{same_raised}
use Rattle.letters.specs.Order.{order_raised}
use Rattle.tags.specs.Tags.{kind_of}
use Rattle.rowcheck.specs.Check.{Row, placed, sound, follows, lacks, writable, counted, verdict, check_from, check_of}
use Rattle.refusals.specs.declared.Refusal.TheVariants.{BadRow, BadName, ManyNames, ManyRecords}

-- "aB eor"
abbrev text : List ℕ
text = 97 ∷ 66 ∷ 32 ∷ 101 ∷ 111 ∷ 114 ∷ []

-- record n with the name of k bytes at i, and an empty value
abbrev row : ℕ → ℕ → ℕ → Row
row n i k = n ∷ i ∷ k ∷ 0 ∷ 0 ∷ []

-- "a" and then "B", and "B" in a second record; "B" before "a"; "a" twice; a first record that is 2; a place outside the text
in_order : check_of text (row 1 0 1 ∷ row 1 1 1 ∷ row 2 1 1 ∷ []) ≡ Ok tt
unfolding lead ends other space1 space2 space3 space80 space_len space_back width trim_start trim_end char_len long_char second3 second4 valid_up_to utf8 raised same_raised order_raised kind_of placed sound follows lacks writable counted verdict check_from check_of
in_order = refl

falling : check_of text (row 1 1 1 ∷ row 1 0 1 ∷ []) ≡ Err BadRow
unfolding lead ends other space1 space2 space3 space80 space_len space_back width trim_start trim_end char_len long_char second3 second4 valid_up_to utf8 raised same_raised order_raised kind_of placed sound follows lacks writable counted verdict check_from check_of
falling = refl

twice : check_of text (row 1 0 1 ∷ row 1 0 1 ∷ []) ≡ Err BadRow
unfolding lead ends other space1 space2 space3 space80 space_len space_back width trim_start trim_end char_len long_char second3 second4 valid_up_to utf8 raised same_raised order_raised kind_of placed sound follows lacks writable counted verdict check_from check_of
twice = refl

second_first : check_of text (row 2 0 1 ∷ []) ≡ Err BadRow
unfolding lead ends other space1 space2 space3 space80 space_len space_back width trim_start trim_end char_len long_char second3 second4 valid_up_to utf8 raised same_raised order_raised kind_of placed sound follows lacks writable counted verdict check_from check_of
second_first = refl

outside : check_of text (row 1 6 1 ∷ []) ≡ Err BadRow
unfolding placed verdict check_from check_of
outside = refl

-- " " is not trimmed, and "eor" is a control name
not_trimmed : check_of text (row 1 2 1 ∷ []) ≡ Err BadName
unfolding lead ends other space1 space2 space3 space80 space_len space_back width trim_start trim_end char_len long_char second3 second4 valid_up_to utf8 raised same_raised order_raised kind_of placed sound follows lacks writable counted verdict check_from check_of
not_trimmed = refl

control : check_of text (row 1 3 3 ∷ []) ≡ Err BadName
unfolding lead ends other space1 space2 space3 space80 space_len space_back width trim_start trim_end char_len long_char second3 second4 valid_up_to utf8 raised same_raised order_raised kind_of placed sound follows lacks writable counted verdict check_from check_of
control = refl

-- the 257th name, and the 65,536th record
crowded : verdict text 1 256 (row 1 0 1) (row 1 1 1) ≡ Err (ManyNames 0)
unfolding lead ends other space1 space2 space3 space80 space_len space_back width trim_start trim_end char_len long_char second3 second4 valid_up_to utf8 raised same_raised order_raised kind_of placed sound follows lacks writable counted verdict
crowded = refl

too_many : verdict text 65535 1 (row 65535 0 1) (row 65536 1 1) ≡ Err (ManyRecords 0)
unfolding lead ends other space1 space2 space3 space80 space_len space_back width trim_start trim_end char_len long_char second3 second4 valid_up_to utf8 raised same_raised order_raised kind_of placed sound follows lacks writable counted verdict
too_many = refl
