-- Worked examples.
use Rattle.tags.specs.declared.Tag.TheVariants.{End, Eor, Field}
use Rattle.std.specs.Prelude.{◌≡◌, refl, [], ◌∷◌, Ok, Err}
use Rattle.text.specs.Walk.{lead, ends}
use Rattle.text.specs.Find.{other}
use Rattle.text.specs.Space.{space1, space2, space3, space80, space_len, space_back, width, trim_start, trim_end, trimmed}
use Rattle.letters.specs.Capitals.{raised}
use Rattle.letters.specs.Same.{same_raised}
use Rattle.decimal.specs.Decimal.{digits_after, digits_of, leads, unsigned_of}
use Rattle.refusals.specs.declared.Refusal.TheVariants.{UnterminatedTag, MissingLength, BadLength, TruncatedValue, NonUtf8}
use Rattle.tags.specs.Tags.{kind_of, colon_at, name_at, name_length, name_place, name_of, length_after, value_of, by_kind, tag_of, closed_at, open_at, tag_at}

-- "x< a : +1 :S>é": the name at 3, the value at 14 would end inside "é"
torn : tag_at (120 ∷ 60 ∷ 32 ∷ 97 ∷ 32 ∷ 58 ∷ 32 ∷ 43 ∷ 49 ∷ 32 ∷ 58 ∷ 83 ∷ 62 ∷ 0xC3 ∷ 0xA9 ∷ []) 0 ≡ Err (NonUtf8 1 3 1)
unfolding lead ends other space1 space2 space3 space80 space_len space_back width trim_start trim_end trimmed raised same_raised digits_after digits_of leads unsigned_of kind_of colon_at name_at name_length name_place name_of length_after value_of by_kind tag_of closed_at open_at tag_at
torn = refl

-- "<A:2>xy"
field : tag_at (60 ∷ 65 ∷ 58 ∷ 50 ∷ 62 ∷ 120 ∷ 121 ∷ []) 0 ≡ Ok (Field 0 1 1 5 2)
unfolding lead ends other space1 space2 space3 space80 space_len space_back width trim_start trim_end trimmed raised same_raised digits_after digits_of leads unsigned_of kind_of colon_at name_at name_length name_place name_of length_after value_of by_kind tag_of closed_at open_at tag_at
field = refl

-- the same from 1 on, where there is no tag
past : tag_at (60 ∷ 65 ∷ 58 ∷ 50 ∷ 62 ∷ 120 ∷ 121 ∷ []) 1 ≡ Ok End
unfolding lead ends other closed_at open_at tag_at
past = refl

-- "< eor :x>": a control name needs no length
control : tag_at (60 ∷ 32 ∷ 101 ∷ 111 ∷ 114 ∷ 32 ∷ 58 ∷ 120 ∷ 62 ∷ []) 0 ≡ Ok (Eor 0 9)
unfolding lead ends other space1 space2 space3 space80 space_len space_back width trim_start trim_end trimmed raised same_raised digits_after digits_of leads unsigned_of kind_of colon_at name_at name_length name_place name_of length_after value_of by_kind tag_of closed_at open_at tag_at
control = refl

-- "<A>x": 4; "<A": 3; "<:>": 5, with the empty name, which is at place 0; "<A:2>x": 6
missing : tag_at (60 ∷ 65 ∷ 62 ∷ 120 ∷ []) 0 ≡ Err (MissingLength 0 1 1)
unfolding lead ends other space1 space2 space3 space80 space_len space_back width trim_start trim_end trimmed raised same_raised digits_after digits_of leads unsigned_of kind_of colon_at name_at name_length name_place name_of length_after value_of by_kind tag_of closed_at open_at tag_at
missing = refl

unterminated : tag_at (60 ∷ 65 ∷ []) 0 ≡ Err (UnterminatedTag 0)
unfolding lead ends other closed_at open_at tag_at
unterminated = refl

bad : tag_at (60 ∷ 58 ∷ 62 ∷ []) 0 ≡ Err (BadLength 0 0 0)
unfolding lead ends other space1 space2 space3 space80 space_len space_back width trim_start trim_end trimmed raised same_raised digits_after digits_of leads unsigned_of kind_of colon_at name_at name_length name_place name_of length_after value_of by_kind tag_of closed_at open_at tag_at
bad = refl

truncated : tag_at (60 ∷ 65 ∷ 58 ∷ 50 ∷ 62 ∷ 120 ∷ []) 0 ≡ Err (TruncatedValue 0 1 1 2 1)
unfolding lead ends other space1 space2 space3 space80 space_len space_back width trim_start trim_end trimmed raised same_raised digits_after digits_of leads unsigned_of kind_of colon_at name_at name_length name_place name_of length_after value_of by_kind tag_of closed_at open_at tag_at
truncated = refl

-- "< :1>x": an empty name is a field like others, at place 0
empty_name : tag_at (60 ∷ 32 ∷ 58 ∷ 49 ∷ 62 ∷ 120 ∷ []) 0 ≡ Ok (Field 0 0 0 5 1)
unfolding lead ends other space1 space2 space3 space80 space_len space_back width trim_start trim_end trimmed raised same_raised digits_after digits_of leads unsigned_of kind_of colon_at name_at name_length name_place name_of length_after value_of by_kind tag_of closed_at open_at tag_at
empty_name = refl
