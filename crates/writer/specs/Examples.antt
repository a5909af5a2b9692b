-- Worked examples.
use Rattle.std.specs.Prelude.{◌≡◌, refl, List, [], ◌∷◌, ℕ, Ok, Err}
use Rattle.text.specs.Walk.{lead, ends}
use Rattle.text.specs.Find.{other}
use Rattle.text.specs.Space.{space1, space2, space3, space80, space_len, space_back, width, trim_start, trim_end}
use Rattle.text.specs.Utf8.{char_len, long_char, second3, second4, valid_up_to, utf8}
use Rattle.letters.specs.Capitals.{raised}
use Rattle.letters.specs.Same.{same_raised}
use Rattle.letters.specs.Order.{order_raised}
use Rattle.decimal.specs.Digits.{digits, decimal}
use Rattle.tags.specs.Tags.{kind_of}
use Rattle.fields.specs.Written.{field_text}
use Rattle.refusals.specs.Written.{fitted}
use Rattle.refusals.specs.declared.Refusal.TheVariants.{BadRow, ShortOutput}
use Rattle.rowcheck.specs.Check.{placed, sound, follows, lacks, writable, counted, verdict, check_from, check_of}
use Rattle.writer.specs.Rows.{rows_of, rows_text}
use Rattle.writer.specs.Answer.{checked_of, answer_of}

-- "ab", and two records: A with the value "b", and B with none
abbrev text : List ℕ
text = 97 ∷ 98 ∷ []

abbrev table : List ℕ
table = 1 ∷ 0 ∷ 1 ∷ 1 ∷ 1 ∷ 2 ∷ 1 ∷ 1 ∷ 0 ∷ 0 ∷ []

-- "<A:1>b <EOR>", a newline, "<B:0> <EOR>" and a newline: 25 bytes
written : answer_of text table 2 25 ≡ Ok 25
unfolding lead ends other space1 space2 space3 space80 space_len space_back width trim_start trim_end char_len long_char second3 second4 valid_up_to utf8 raised same_raised order_raised digits decimal kind_of field_text placed sound follows lacks writable counted verdict check_from check_of rows_of rows_text checked_of fitted answer_of
written = refl

short : answer_of text table 2 24 ≡ Err ShortOutput
unfolding lead ends other space1 space2 space3 space80 space_len space_back width trim_start trim_end char_len long_char second3 second4 valid_up_to utf8 raised same_raised order_raised digits decimal kind_of field_text placed sound follows lacks writable counted verdict check_from check_of rows_of rows_text checked_of fitted answer_of
short = refl

too_many_rows : answer_of text table 3 100 ≡ Err BadRow
unfolding answer_of
too_many_rows = refl

bytes : rows_text text (rows_of table 2)
    ≡ 60 ∷ 65 ∷ 58 ∷ 49 ∷ 62 ∷ 98 ∷ 32 ∷ 60 ∷ 69 ∷ 79 ∷ 82 ∷ 62 ∷ 10 ∷ 60 ∷ 66 ∷ 58 ∷ 48 ∷ 62 ∷ 32 ∷ 60 ∷ 69 ∷ 79 ∷ 82 ∷ 62 ∷ 10 ∷ []
unfolding raised digits decimal field_text rows_of rows_text
bytes = refl
