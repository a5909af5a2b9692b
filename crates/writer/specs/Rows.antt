-- The rows of a lent table, the records that they stand for, and their text.
use Rattle.std.specs.Prelude.{Bool, true, false, not, List, [], ◌∷◌, ◌++◌, map, ℕ, zero, suc, ◌+◌, ◌*◌, get_or, eqb}
use Rattle.adif.specs.Grammar.{Field}
use Rattle.fields.specs.Written.{field_text, end_of_record}
use Rattle.fields.specs.Parts.{field_as}
use Rattle.rowcheck.specs.Check.{Row, record_in, name_in, value_in}

-- row i is the five numbers from 5 * i on; k rows from row i on
abbrev pub row_at : List ℕ → ℕ → Row
row_at t i = get_or t (i * 5) 0 ∷ get_or t (i * 5 + 1) 0 ∷ get_or t (i * 5 + 2) 0 ∷ get_or t (i * 5 + 3) 0 ∷ get_or t (i * 5 + 4) 0 ∷ []

abbrev pub rows_from : List ℕ → ℕ → ℕ → List Row
rows_from t i zero = []
rows_from t i (suc k) = row_at t i ∷ rows_from t (suc i) k

unfoldable pub rows_of : List ℕ → ℕ → List Row
rows_of t count = rows_from t 0 count

-- the field of a row: its name in capitals, and its value
abbrev pub row_field : List ℕ → Row → Field
row_field text r = field_as (name_in text r) (value_in text r)

-- whether record n ends before the rows
abbrev pub ends_before : ℕ → List Row → Bool
ends_before n [] = true
ends_before n (r ∷ rs) = not (eqb n (record_in r))

-- what follows a field: the record's end, or nothing
abbrev pub end_text : Bool → List ℕ
end_text true = end_of_record
end_text false = []

unfoldable pub rows_text : List ℕ → List Row → List ℕ
rows_text text [] = []
rows_text text (r ∷ rs) = (field_text (row_field text r) ++ end_text (ends_before (record_in r) rs)) ++ rows_text text rs

-- the rows by records
abbrev pub joined : Bool → Row → List (List Row) → List (List Row)
joined true r gs = (r ∷ []) ∷ gs
joined false r [] = (r ∷ []) ∷ []
joined false r (g ∷ gs) = (r ∷ g) ∷ gs

abbrev pub grouped : List Row → List (List Row)
grouped [] = []
grouped (r ∷ rs) = joined (ends_before (record_in r) rs) r (grouped rs)

abbrev pub records_of : List ℕ → List Row → List (List Field)
records_of text rs = map (map (row_field text)) (grouped rs)
