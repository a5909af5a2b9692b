-- A field by the bytes of its name as they stand, and its text in three parts.
use Rattle.std.specs.Prelude.{List, [], ◌∷◌, ◌++◌, ℕ}
use Rattle.letters.specs.Capitals.{capitals}
use Rattle.decimal.specs.Digits.{decimal}
use Rattle.tags.specs.Tags.{lt, gt, colon}
use Rattle.adif.specs.Grammar.{Field}

abbrev pub field_as : List ℕ → List ℕ → Field
field_as name value = record { name = capitals name; value = value }

abbrev pub open_text : List ℕ → List ℕ
open_text name = (lt ∷ []) ++ (capitals name ++ (colon ∷ []))

abbrev pub length_text : ℕ → List ℕ
length_text n = decimal n ++ (gt ∷ [])

abbrev pub value_text : List ℕ → List ℕ
value_text value = value ++ (0x20 ∷ [])
