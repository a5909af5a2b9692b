-- Worked examples.
use Rattle.std.specs.Prelude.{◌≡◌, refl, false, List, [], ◌∷◌, ℕ}
use Rattle.text.specs.Run.{run}
use Rattle.text.specs.Walk.{lead, ends}
use Rattle.text.specs.Find.{other}
use Rattle.text.specs.Space.{space1, space2, space3, space80, space_len, space_back, width, trim_start, trim_end, trimmed}
use Rattle.text.specs.Utf8.{char_len, long_char, second3, second4, valid_up_to}
use Rattle.letters.specs.Capitals.{raised}
use Rattle.letters.specs.Same.{same_raised}
use Rattle.decimal.specs.Decimal.{digits_after, digits_of, leads, unsigned_of}
use Rattle.refusals.specs.Refusals.{of_text}
use Rattle.refusals.specs.declared.Refusal.TheVariants.{FewRows}
use Rattle.tags.specs.Tags.{kind_of, colon_at, name_at, name_length, name_place, name_of, length_after, value_of, by_kind, tag_of, closed_at, open_at, tag_at}
use Rattle.adif.specs.Records.{eoh, eor, field, records, refused, plainly}
use Rattle.adif.specs.Grammar.{Field, Items}
use Rattle.adif.specs.Reading.{row_name, read_tags, read_text}

-- a field named n with the value v
abbrev one : ℕ → ℕ → Field
one n v = record { name = n ∷ []; value = v ∷ [] }

-- a header of A; then C and B, B again; and a D that is not finished
abbrev items : Items
items = field (one 65 1) ∷ eoh ∷ field (one 67 2) ∷ field (one 66 3) ∷ field (one 66 4) ∷ eor ∷ eor ∷ field (one 68 5) ∷ []

two_records : plainly (λ f. f.name) [] false items ≡ (one 66 4 ∷ one 67 2 ∷ []) ∷ (one 68 5 ∷ []) ∷ []
two_records = refl

-- "<A:1>x<EOH><B:1>y<EOR><C:1>z", with ten lent rows, and with one
abbrev text : List ℕ
text = 60 ∷ 65 ∷ 58 ∷ 49 ∷ 62 ∷ 120 ∷ 60 ∷ 69 ∷ 79 ∷ 72 ∷ 62 ∷ 60 ∷ 66 ∷ 58 ∷ 49 ∷ 62 ∷ 121 ∷ 60 ∷ 69 ∷ 79 ∷ 82 ∷ 62 ∷ 60 ∷ 67 ∷ 58 ∷ 49 ∷ 62 ∷ 122 ∷ []

read : read_text text 10 ≡ records (((12 ∷ 1 ∷ 16 ∷ 1 ∷ []) ∷ []) ∷ ((23 ∷ 1 ∷ 27 ∷ 1 ∷ []) ∷ []) ∷ [])
unfolding lead ends other run space1 space2 space3 space80 space_len space_back width trim_start trim_end trimmed char_len long_char second3 second4 valid_up_to raised same_raised digits_after digits_of leads unsigned_of of_text kind_of colon_at name_at name_length name_place name_of length_after value_of by_kind tag_of closed_at open_at tag_at row_name read_tags read_text
read = refl

too_few : read_text text 1 ≡ refused (FewRows 28)
unfolding lead ends other run space1 space2 space3 space80 space_len space_back width trim_start trim_end trimmed char_len long_char second3 second4 valid_up_to raised same_raised digits_after digits_of leads unsigned_of of_text kind_of colon_at name_at name_length name_place name_of length_after value_of by_kind tag_of closed_at open_at tag_at row_name read_tags read_text
too_few = refl
