-- Worked examples.
use Rattle.std.specs.Prelude.{◌≡◌, refl, [], ◌∷◌}
use Rattle.letters.specs.Capitals.{raised}
use Rattle.decimal.specs.Digits.{digits, decimal}
use Rattle.fields.specs.Written.{field_text, record_text}
use Rattle.fields.specs.Parts.{field_as}

-- "qth" with the value "Zürich", seven bytes: "<QTH:7>Zürich " and then "<EOR>" and a newline
one_field : record_text (field_as (113 ∷ 116 ∷ 104 ∷ []) (90 ∷ 0xC3 ∷ 0xBC ∷ 114 ∷ 105 ∷ 99 ∷ 104 ∷ []) ∷ [])
    ≡ 60 ∷ 81 ∷ 84 ∷ 72 ∷ 58 ∷ 55 ∷ 62 ∷ 90 ∷ 0xC3 ∷ 0xBC ∷ 114 ∷ 105 ∷ 99 ∷ 104 ∷ 32 ∷ 60 ∷ 69 ∷ 79 ∷ 82 ∷ 62 ∷ 10 ∷ []
unfolding field_text raised decimal digits
one_field = refl

-- an empty value
empty : field_text (field_as (65 ∷ []) []) ≡ 60 ∷ 65 ∷ 58 ∷ 48 ∷ 62 ∷ 32 ∷ []
unfolding field_text raised decimal digits
empty = refl
