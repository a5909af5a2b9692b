-- A station's fields: those that are not blank, trimmed, in strict byte order of their names. An absent text counts as an empty one,
-- and both give no field.
use Rattle.std.specs.Prelude.{List, [], ◌∷◌, Bool, ℕ}
use Rattle.text.specs.Pick.{pick, both}
use Rattle.text.specs.Utf8.{utf8}
use Rattle.text.specs.Space.{blank, trimmed}
use Rattle.adif.specs.Grammar.{Field}
use Rattle.fields.specs.Written.{field_text, fields_text}
use Rattle.fields.specs.Parts.{field_as}
use Rattle.headers.specs.Answer.{all_utf8}

-- "MY_CNTY", "MY_CQ_ZONE", "MY_GRIDSQUARE", "MY_ITU_ZONE", "MY_NAME", "MY_STATE", "OPERATOR", "STATION_CALLSIGN"
abbrev pub my_county : List ℕ
my_county = 77 ∷ 89 ∷ 95 ∷ 67 ∷ 78 ∷ 84 ∷ 89 ∷ []

abbrev pub my_cq_zone : List ℕ
my_cq_zone = 77 ∷ 89 ∷ 95 ∷ 67 ∷ 81 ∷ 95 ∷ 90 ∷ 79 ∷ 78 ∷ 69 ∷ []

abbrev pub my_gridsquare : List ℕ
my_gridsquare = 77 ∷ 89 ∷ 95 ∷ 71 ∷ 82 ∷ 73 ∷ 68 ∷ 83 ∷ 81 ∷ 85 ∷ 65 ∷ 82 ∷ 69 ∷ []

abbrev pub my_itu_zone : List ℕ
my_itu_zone = 77 ∷ 89 ∷ 95 ∷ 73 ∷ 84 ∷ 85 ∷ 95 ∷ 90 ∷ 79 ∷ 78 ∷ 69 ∷ []

abbrev pub my_name : List ℕ
my_name = 77 ∷ 89 ∷ 95 ∷ 78 ∷ 65 ∷ 77 ∷ 69 ∷ []

abbrev pub my_state : List ℕ
my_state = 77 ∷ 89 ∷ 95 ∷ 83 ∷ 84 ∷ 65 ∷ 84 ∷ 69 ∷ []

abbrev pub operator : List ℕ
operator = 79 ∷ 80 ∷ 69 ∷ 82 ∷ 65 ∷ 84 ∷ 79 ∷ 82 ∷ []

abbrev pub station_callsign : List ℕ
station_callsign = 83 ∷ 84 ∷ 65 ∷ 84 ∷ 73 ∷ 79 ∷ 78 ∷ 95 ∷ 67 ∷ 65 ∷ 76 ∷ 76 ∷ 83 ∷ 73 ∷ 71 ∷ 78 ∷ []

-- the field, unless its text is blank
abbrev pub given : List ℕ → List ℕ → List Field → List Field
given name v rest = pick (blank v) rest (field_as name (trimmed v) ∷ rest)

abbrev pub station_fields : List ℕ → List ℕ → List ℕ → List ℕ → List ℕ → List ℕ → List ℕ → List Field
station_fields call grid name state county cq itu =
    given my_county county
    (given my_cq_zone cq
    (given my_gridsquare grid
    (given my_itu_zone itu
    (given my_name name
    (given my_state state
    (given operator call
    (given station_callsign call [])))))))

unfoldable pub station_text : List ℕ → List ℕ → List ℕ → List ℕ → List ℕ → List ℕ → List ℕ → List ℕ
station_text call grid name state county cq itu = fields_text (station_fields call grid name state county cq itu)

-- the text of one of them
unfoldable pub filled : List ℕ → List ℕ → List ℕ
filled name v = pick (blank v) [] (field_text (field_as name (trimmed v)))

-- all are UTF-8
unfoldable pub all7 : List ℕ → List ℕ → List ℕ → List ℕ → List ℕ → List ℕ → List ℕ → Bool
all7 a b c d e f g = both (all_utf8 a b c) (both (all_utf8 d e f) (utf8 g))
