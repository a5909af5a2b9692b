-- The headers.
use Rattle.std.specs.Prelude.{List, [], ◌∷◌, ℕ}
use Rattle.adif.specs.Grammar.{Field}
use Rattle.fields.specs.Written.{header_text}
use Rattle.fields.specs.Parts.{field_as}

-- "ADIF_VER", "PROGRAMID", "PROGRAMVERSION", "CREATED_TIMESTAMP"
abbrev pub adif_version : List ℕ
adif_version = 65 ∷ 68 ∷ 73 ∷ 70 ∷ 95 ∷ 86 ∷ 69 ∷ 82 ∷ []

abbrev pub program_id : List ℕ
program_id = 80 ∷ 82 ∷ 79 ∷ 71 ∷ 82 ∷ 65 ∷ 77 ∷ 73 ∷ 68 ∷ []

abbrev pub program_version : List ℕ
program_version = 80 ∷ 82 ∷ 79 ∷ 71 ∷ 82 ∷ 65 ∷ 77 ∷ 86 ∷ 69 ∷ 82 ∷ 83 ∷ 73 ∷ 79 ∷ 78 ∷ []

abbrev pub created_timestamp : List ℕ
created_timestamp = 67 ∷ 82 ∷ 69 ∷ 65 ∷ 84 ∷ 69 ∷ 68 ∷ 95 ∷ 84 ∷ 73 ∷ 77 ∷ 69 ∷ 83 ∷ 84 ∷ 65 ∷ 77 ∷ 80 ∷ []

-- "rigflow"
abbrev pub rigflow : List ℕ
rigflow = 114 ∷ 105 ∷ 103 ∷ 102 ∷ 108 ∷ 111 ∷ 119 ∷ []

-- "<ADIF_VER:5>3.1.6 <PROGRAMID:7>rigflow <EOH>" and a newline
abbrev pub journal_header : List ℕ
journal_header = 60 ∷ 65 ∷ 68 ∷ 73 ∷ 70 ∷ 95 ∷ 86 ∷ 69 ∷ 82 ∷ 58 ∷ 53 ∷ 62 ∷ 51 ∷ 46 ∷ 49 ∷ 46 ∷ 54 ∷ 32 ∷ 60 ∷ 80 ∷ 82 ∷ 79 ∷ 71 ∷ 82 ∷ 65 ∷ 77 ∷ 73 ∷ 68 ∷ 58 ∷ 55 ∷ 62 ∷ 114 ∷ 105 ∷ 103 ∷ 102 ∷ 108 ∷ 111 ∷ 119 ∷ 32 ∷ 60 ∷ 69 ∷ 79 ∷ 72 ∷ 62 ∷ 10 ∷ []

-- its fields: the version is "3.1.6"
abbrev pub journal_fields : List Field
journal_fields = field_as adif_version (51 ∷ 46 ∷ 49 ∷ 46 ∷ 54 ∷ []) ∷ field_as program_id rigflow ∷ []

-- the header of an export: the ADIF version, the program, its version, and when it was made
abbrev pub export_fields : List ℕ → List ℕ → List ℕ → List Field
export_fields version program created =
    field_as adif_version version ∷ field_as program_id rigflow ∷ field_as program_version program ∷ field_as created_timestamp created ∷ []

unfoldable pub export_header : List ℕ → List ℕ → List ℕ → List ℕ
export_header version program created = header_text (export_fields version program created)
