-- Records as ADIF text.
use Rattle.std.specs.Prelude.{List, [], ◌∷◌, ◌++◌, ℕ, length}
use Rattle.decimal.specs.Digits.{decimal}
use Rattle.tags.specs.Tags.{lt, gt, colon}
use Rattle.adif.specs.Grammar.{Field}

-- <NAME:LEN>value and a space, LEN in bytes
unfoldable pub field_text : Field → List ℕ
field_text f = lt ∷ (f.name ++ colon ∷ (decimal (length f.value) ++ gt ∷ (f.value ++ 0x20 ∷ [])))

-- fields, one after the other
abbrev pub fields_text : List Field → List ℕ
fields_text [] = []
fields_text (f ∷ fs) = field_text f ++ fields_text fs

-- "<EOR>" and a newline; "<EOH>" and a newline
abbrev pub end_of_record : List ℕ
end_of_record = 60 ∷ 69 ∷ 79 ∷ 82 ∷ 62 ∷ 10 ∷ []

abbrev pub end_of_header : List ℕ
end_of_header = 60 ∷ 69 ∷ 79 ∷ 72 ∷ 62 ∷ 10 ∷ []

-- the fields of a record, and its end
abbrev pub record_text : List Field → List ℕ
record_text [] = end_of_record
record_text (f ∷ fs) = field_text f ++ record_text fs

-- the fields of a header, and its end
abbrev pub header_text : List Field → List ℕ
header_text [] = end_of_header
header_text (f ∷ fs) = field_text f ++ header_text fs
