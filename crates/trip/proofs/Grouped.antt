-- The text of rows is the text of their records. Assumes nothing.
use mathlib.Core.Path.{◌≡◌, refl, sym, ap, ◌∙◌}
use mathlib.Core.Bool.{Bool, true, false}
use mathlib.Core.List.{List, [], ◌∷◌, ◌++◌, append_assoc, append-nil, map}
use Prim.Native.Nat.{ℕ}
use native.Mathlib.Omega.{arith}
use Rattle.adif.specs.Grammar.{Field}
use Rattle.fields.specs.Written.{field_text, record_text}
use Rattle.rowcheck.specs.Check.{Row, record_in}
use Rattle.writer.specs.Rows.{row_field, ends_before, end_text, rows_text, joined, grouped, records_of}
use Rattle.trip.specs.File.{Records, records_text, in_file}

-- records with nothing between them
abbrev pub closely : List (List Field) → Records
closely [] = []
closely (r ∷ rs) = ([], r) ∷ closely rs

pub closely_is : (rs : List (List Field)) → in_file (closely rs) ≡ rs
closely_is [] = refl
closely_is (r ∷ rs) = ap (λ (l : List (List Field)). r ∷ l) (closely_is rs)

some_joined : (b : Bool) (r : Row) (gs : List (List Row)) → joined b r gs ≡ [] → ⊥
some_joined true r gs e = let z : ◌≡◌ {A = ℕ} 0 1 = cc in omega arith
some_joined false r [] e = let z : ◌≡◌ {A = ℕ} 0 1 = cc in omega arith
some_joined false r (g ∷ gs) e = let z : ◌≡◌ {A = ℕ} 0 1 = cc in omega arith

-- where the record goes on there is a next row to join
pub goes_on_lem : (n : ℕ) (rs : List Row) → ends_before n rs ≡ false → grouped rs ≡ [] → ⊥
goes_on_lem n [] e p = let z : ◌≡◌ {A = ℕ} 0 1 = cc in omega arith
goes_on_lem n (r ∷ rs) e p = some_joined (ends_before (record_in r) rs) r (grouped rs) p

module _ (text : List ℕ) where
  abbrev whole : List (List Row) → List ℕ
  whole gs = records_text (closely (map (map (row_field text)) gs)) []

  step : (r : Row) (b : Bool) (gs : List (List Row)) → (b ≡ false → gs ≡ [] → ⊥) → (field_text (row_field text r) ++ end_text b) ++ whole gs ≡ whole (joined b r gs)
  step r true gs k = append_assoc (field_text (row_field text r)) (end_text true) (whole gs) ∙ sym (append_assoc (field_text (row_field text r)) (record_text []) (whole gs))
  step r false [] k = absurd (k refl refl)
  step r false (g ∷ gs) k =
      rw (append-nil (field_text (row_field text r))) (sym (append_assoc (field_text (row_field text r)) (record_text (map (row_field text) g)) (whole gs)))

  pub rows_text_lem : (rs : List Row) → rows_text text rs ≡ records_text (closely (records_of text rs)) []
  unfolding rows_text
  rows_text_lem [] = refl
  rows_text_lem (r ∷ rs) = rw (rows_text_lem rs) (step r (ends_before (record_in r) rs) (grouped rs) (goes_on_lem (record_in r) rs))
