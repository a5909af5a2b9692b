-- Worked examples: for each text the answer, and the lent table of twelve numbers after it, all of which were 9 before. Those of docs/SCOPE.md
-- are in the crate `examples`.
use Rattle.refusals.specs.declared.Refusal.{Refusal}
use Rattle.reader.specs.declared.Reading.{Reading}
use Rattle.std.specs.Prelude.{◌≡◌, refl, List, [], ◌∷◌, ℕ, Result, Ok, Err}
use Rattle.text.specs.Run.{run}
use Rattle.text.specs.Walk.{lead, ends}
use Rattle.text.specs.Find.{other}
use Rattle.text.specs.Space.{space1, space2, space3, space80, space_len, space_back, width, trim_start, trim_end, trimmed}
use Rattle.text.specs.Utf8.{char_len, long_char, second3, second4, valid_up_to}
use Rattle.letters.specs.Capitals.{raised}
use Rattle.letters.specs.Same.{same_raised}
use Rattle.decimal.specs.Decimal.{digits_after, digits_of, leads, unsigned_of}
use Rattle.refusals.specs.Refusals.{of_text}
use Rattle.refusals.specs.declared.Refusal.TheVariants.{UnterminatedTag, MissingLength, FewRows}
use Rattle.tags.specs.Tags.{kind_of, colon_at, name_at, name_length, name_place, name_of, length_after, value_of, by_kind, tag_of, closed_at, open_at, tag_at}
use Rattle.adif.specs.Reading.{row_name, read_tags, read_text}
use Rattle.reader.specs.Table.{answer_to, table_after}

abbrev lent : List ℕ
lent = 9 ∷ 9 ∷ 9 ∷ 9 ∷ 9 ∷ 9 ∷ 9 ∷ 9 ∷ 9 ∷ 9 ∷ 9 ∷ 9 ∷ []

-- the text reads so, and leaves the table so
abbrev Reads : List ℕ → Result Reading Refusal → List ℕ → Type 0
Reads text answer table = (answer_to text lent ≡ answer) × (table_after text lent ≡ table)

-- two records, though the second is not closed
-- <CALL:1>A<EOR><CALL:1>B
two_records : Reads (60 ∷ 67 ∷ 65 ∷ 76 ∷ 76 ∷ 58 ∷ 49 ∷ 62 ∷ 65 ∷ 60 ∷ 69 ∷ 79 ∷ 82 ∷ 62 ∷ 60 ∷ 67 ∷ 65 ∷ 76 ∷ 76 ∷ 58 ∷ 49 ∷ 62 ∷ 66 ∷ []) (Ok (record { records = 2; rows = 2 })) (1 ∷ 1 ∷ 4 ∷ 8 ∷ 1 ∷ 2 ∷ 15 ∷ 4 ∷ 22 ∷ 1 ∷ 0 ∷ 0 ∷ [])
unfolding lead ends other run space1 space2 space3 space80 space_len space_back width trim_start trim_end trimmed char_len long_char second3 second4 valid_up_to raised same_raised digits_after digits_of leads unsigned_of of_text kind_of colon_at name_at name_length name_place name_of length_after value_of by_kind tag_of closed_at open_at tag_at row_name read_tags read_text answer_to table_after
two_records = (refl, refl)

-- 4 and 3
-- <A>x
no_length : Reads (60 ∷ 65 ∷ 62 ∷ 120 ∷ []) (Err (MissingLength 0 1 1)) (0 ∷ 0 ∷ 0 ∷ 0 ∷ 0 ∷ 0 ∷ 0 ∷ 0 ∷ 0 ∷ 0 ∷ 0 ∷ 0 ∷ [])
unfolding lead ends other run space1 space2 space3 space80 space_len space_back width trim_start trim_end trimmed char_len long_char second3 second4 valid_up_to raised same_raised digits_after digits_of leads unsigned_of of_text kind_of colon_at name_at name_length name_place name_of length_after value_of by_kind tag_of closed_at open_at tag_at row_name read_tags read_text answer_to table_after
no_length = (refl, refl)

-- <A
no_end : Reads (60 ∷ 65 ∷ []) (Err (UnterminatedTag 0)) (0 ∷ 0 ∷ 0 ∷ 0 ∷ 0 ∷ 0 ∷ 0 ∷ 0 ∷ 0 ∷ 0 ∷ 0 ∷ 0 ∷ [])
unfolding lead ends other run space1 space2 space3 space80 space_len space_back width trim_start trim_end trimmed char_len long_char second3 second4 valid_up_to raised same_raised digits_after digits_of leads unsigned_of of_text kind_of colon_at name_at name_length name_place name_of length_after value_of by_kind tag_of closed_at open_at tag_at row_name read_tags read_text answer_to table_after
no_end = (refl, refl)

-- 10: three rows wanted, and twelve numbers are two
-- <A:0><B:0><C:0><EOR>
few_rows : Reads (60 ∷ 65 ∷ 58 ∷ 48 ∷ 62 ∷ 60 ∷ 66 ∷ 58 ∷ 48 ∷ 62 ∷ 60 ∷ 67 ∷ 58 ∷ 48 ∷ 62 ∷ 60 ∷ 69 ∷ 79 ∷ 82 ∷ 62 ∷ []) (Err (FewRows 15)) (0 ∷ 0 ∷ 0 ∷ 0 ∷ 0 ∷ 0 ∷ 0 ∷ 0 ∷ 0 ∷ 0 ∷ 0 ∷ 0 ∷ [])
unfolding lead ends other run space1 space2 space3 space80 space_len space_back width trim_start trim_end trimmed char_len long_char second3 second4 valid_up_to raised same_raised digits_after digits_of leads unsigned_of of_text kind_of colon_at name_at name_length name_place name_of length_after value_of by_kind tag_of closed_at open_at tag_at row_name read_tags read_text answer_to table_after
few_rows = (refl, refl)
