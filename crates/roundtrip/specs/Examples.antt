-- Worked examples.
use Rattle.std.specs.Prelude.{◌≡◌, refl, List, [], ◌∷◌, ℕ, replicate, Ok, Err}
use Rattle.text.specs.Run.{run}
use Rattle.text.specs.Walk.{lead, ends}
use Rattle.text.specs.Find.{other}
use Rattle.text.specs.Space.{space1, space2, space3, space80, space_len, space_back, width, trim_start, trim_end, trimmed}
use Rattle.text.specs.Utf8.{char_len, long_char, second3, second4, valid_up_to, utf8}
use Rattle.letters.specs.Capitals.{raised}
use Rattle.letters.specs.Same.{same_raised}
use Rattle.letters.specs.Order.{order_raised}
use Rattle.decimal.specs.Decimal.{digits_after, digits_of, leads, unsigned_of}
use Rattle.decimal.specs.Digits.{digits, decimal}
use Rattle.refusals.specs.Refusals.{of_text}
use Rattle.refusals.specs.Written.{fitted}
use Rattle.refusals.specs.declared.Refusal.TheVariants.{ShortOutput}
use Rattle.tags.specs.Tags.{kind_of, colon_at, name_at, name_length, name_place, name_of, length_after, value_of, by_kind, tag_of, closed_at, open_at, tag_at}
use Rattle.adif.specs.Reading.{row_name, read_tags, read_text}
use Rattle.fields.specs.Written.{field_text}
use Rattle.rowcheck.specs.Check.{placed, sound, follows, lacks, writable, counted, verdict, check_from, check_of}
use Rattle.reader.specs.Table.{answer_to, table_after}
use Rattle.writer.specs.Rows.{rows_of, rows_text}
use Rattle.writer.specs.Answer.{checked_of, answer_of, output_of}
use Rattle.roundtrip.specs.Trip.{trip_of, table_of}

-- of "ab" the record whose field a has the value "b": "<A:1>b <EOR>" and a newline, 13 bytes
abbrev text : List ℕ
text = 97 ∷ 98 ∷ []

abbrev rows : List ℕ
rows = 1 ∷ 0 ∷ 1 ∷ 1 ∷ 1 ∷ []

-- it reads back as one record, whose name stands at 1 and whose value at 5
there_and_back : trip_of text rows 1 (replicate 13 46) (9 ∷ 9 ∷ 9 ∷ 9 ∷ 9 ∷ 9 ∷ []) ≡ Ok (Ok (record { records = 1; rows = 1 }))
unfolding lead ends other run space1 space2 space3 space80 space_len space_back width trim_start trim_end trimmed char_len long_char second3 second4 valid_up_to utf8 raised same_raised order_raised digits_after digits_of leads unsigned_of digits decimal of_text fitted kind_of colon_at name_at name_length name_place name_of length_after value_of by_kind tag_of closed_at open_at tag_at row_name read_tags read_text field_text placed sound follows lacks writable counted verdict check_from check_of answer_to table_after rows_of rows_text checked_of answer_of output_of trip_of
there_and_back = refl

table : table_of text rows 1 (replicate 13 46) (9 ∷ 9 ∷ 9 ∷ 9 ∷ 9 ∷ 9 ∷ []) ≡ 1 ∷ 1 ∷ 1 ∷ 5 ∷ 1 ∷ 0 ∷ []
unfolding lead ends other run space1 space2 space3 space80 space_len space_back width trim_start trim_end trimmed char_len long_char second3 second4 valid_up_to utf8 raised same_raised order_raised digits_after digits_of leads unsigned_of digits decimal of_text fitted kind_of colon_at name_at name_length name_place name_of length_after value_of by_kind tag_of closed_at open_at tag_at row_name read_tags read_text field_text placed sound follows lacks writable counted verdict check_from check_of answer_to table_after rows_of rows_text checked_of answer_of output_of table_of
table = refl

-- one byte less, and nothing is written or read
one_short : trip_of text rows 1 (replicate 12 46) (9 ∷ 9 ∷ 9 ∷ 9 ∷ 9 ∷ 9 ∷ []) ≡ Err ShortOutput
unfolding lead ends other space1 space2 space3 space80 space_len space_back width trim_start trim_end char_len long_char second3 second4 valid_up_to utf8 raised same_raised order_raised digits decimal fitted kind_of field_text placed sound follows lacks writable counted verdict check_from check_of rows_of rows_text checked_of answer_of output_of trip_of
one_short = refl
