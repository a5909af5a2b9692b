-- The columns as the rows fill them, and the tests of rows. Assumes nothing.
use Rattle.std.specs.Prelude.{Option, Some, None}
use Rattle.std.specs.declared.cmp.Ordering.{Ordering}
use mathlib.Core.Path.{◌≡◌, refl, sym, ap, ◌∙◌}
use mathlib.Core.Bool.{Bool, true, false}
use mathlib.Core.List.{List, ◌∷◌}
use Prim.Native.Nat.{ℕ, suc, ◌+◌, ◌-◌, ◌≤◌, ◌<◌}
use native.Mathlib.Omega.{arith}
use lib.Dec.{eqb, ltb}
use lib.ListN.{set, replicate}
use Rattle.text.specs.Pick.{both}
use Rattle.letters.specs.Order.{order_raised}
use Rattle.rowcheck.specs.Check.{Row, record_in, name_in, placed, sound, is_less}
use Rattle.writer.specs.Rows.{row_at, rows_from}
use Rattle.writer.proofs.RowLaws.{row_before}
use Rattle.tables.specs.Place.{absent, value_place}
use Rattle.tables.specs.declared.Place.{Place}
use Rattle.columns.specs.Columns.{column_names, column_named}
use Rattle.columns.proofs.LaidLaws.{no_column_filled, column_filled, column_below}
use Rattle.mapping.specs.Mapping.{place_named, columns_of, is_row, rises, goes_on, is_record}

-- ---- the columns
pub no_rows : (text t : List ℕ) (first count : ℕ) (p : Place) → p ≡ absent → replicate 13 p ≡ columns_of text (rows_from t (first + count) (count - count))
unfolding columns_of column_names
no_rows text t first count p e =
    let z : count - count ≡ 0 = omega arith in
    rw (e, z) refl

module _ (text t : List ℕ) (first count i : ℕ) (h : 0 < i) (l : i ≤ count) (cs : List Place) (ec : cs ≡ columns_of text (rows_from t (first + i) (count - i)))
    (row : Row) (er : row ≡ row_at t (first + (i - 1))) (name : List ℕ) (en : name ≡ name_in text row) (found : Option ℕ) (ef : found ≡ column_named name) where
  names_it : column_named (name_in text (row_at t (first + (i - 1)))) ≡ found
  names_it = sym (ef ∙ ap column_named (en ∙ ap (name_in text) er))

  pub row_extra : found ≡ None → cs ≡ columns_of text (rows_from t (first + (i - 1)) (count - (i - 1)))
  unfolding columns_of
  row_extra n =
      rw (row_before t first count i h l)
      (ec
      ∙ sym (no_column_filled (name_in text (row_at t (first + (i - 1)))) (value_place (row_at t (first + (i - 1)))) (place_named text (rows_from t (first + i) (count - i)))
      (place_named text (row_at t (first + (i - 1)) ∷ rows_from t (first + i) (count - i))) (λ x. refl) (names_it ∙ n)))

  module _ (k : ℕ) (n : found ≡ Some k) where
    pub row_column : (p : Place) → p ≡ value_place row → set cs k p ≡ columns_of text (rows_from t (first + (i - 1)) (count - (i - 1)))
    unfolding columns_of
    row_column p ep =
        rw (row_before t first count i h l, ep, er, ec)
        (sym (column_filled (name_in text (row_at t (first + (i - 1)))) (value_place (row_at t (first + (i - 1)))) (place_named text (rows_from t (first + i) (count - i)))
        (place_named text (row_at t (first + (i - 1)) ∷ rows_from t (first + i) (count - i))) (λ x. refl) k (names_it ∙ n)))

pub a_column_below : (name : List ℕ) (found : Option ℕ) (k : ℕ) → found ≡ column_named name → found ≡ Some k → k < 13
a_column_below name found k ef n = column_below name k (sym ef ∙ n)

pub all_rows : (text t : List ℕ) (first count i : ℕ) (cs : List Place) → i ≤ 0 → cs ≡ columns_of text (rows_from t (first + i) (count - i))
    → cs ≡ columns_of text (rows_from t first count)
all_rows text t first count i cs h e =
    let z : i ≡ 0 = omega arith in
    let f : first + i ≡ first = omega arith in
    let g : count - i ≡ count = omega arith in
    rw (f, g) at e

-- ---- a record's rows
pub is_row_lem : (text : List ℕ) (r : Row) (p s t : Bool) → p ≡ placed text r → s ≡ sound text r → t ≡ both p s → t ≡ is_row text r
unfolding is_row
is_row_lem text r p s t ep es et = rw (et, ep, es) refl

pub does_rise : (text : List ℕ) (p r : Row) (u v : List ℕ) (o : Ordering) (l t : Bool) → u ≡ name_in text p → v ≡ name_in text r → o ≡ order_raised u v → l ≡ is_less o
    → t ≡ both (eqb (record_in r) (record_in p)) l → t ≡ rises text p r
unfolding rises
does_rise text p r u v o l t eu ev eo el et = rw (et, el, eo, eu, ev) refl

pub starts : (text : List ℕ) (r : Row) (a t : Bool) → a ≡ is_row text r → t ≡ both a (ltb 0 (record_in r)) → t ≡ both (is_row text r) (ltb 0 (record_in r))
starts text r a t ea et = rw (et, ea) refl

pub goes_on_lem : (text : List ℕ) (p r : Row) (a b t : Bool) → a ≡ is_row text r → b ≡ rises text p r → t ≡ both a b → t ≡ both (is_row text r) (rises text p r)
goes_on_lem text p r a b t ea eb et = rw (et, ea, eb) refl

module _ (text t : List ℕ) (first count : ℕ) where
  pub no_row : count ≡ 0 → true ≡ is_record text (rows_from t first count)
  unfolding is_record
  no_row z = rw z refl

  module _ (h : count ≡ 0 → ⊥) (p : Row) (ep : p ≡ row_at t first) (b : Bool) (eb : b ≡ both (is_row text p) (ltb 0 (record_in p))) where
    opened : rows_from t first count ≡ p ∷ rows_from t (first + 1) (count - 1)
    opened =
        let e : count ≡ suc (count - 1) = omega arith in
        let f : first + 1 ≡ suc first = omega arith in
        rw (f, ep) (ap (rows_from t first) e)

    from_first : is_record text (rows_from t first count) ≡ both b (goes_on text p (rows_from t (first + 1) (count - 1)))
    unfolding is_record
    from_first = rw (opened, eb) refl

    pub bad_first : b ≡ false → false ≡ is_record text (rows_from t first count)
    bad_first n = rw from_first (by b n)
      where
        by : (b : Bool) → b ≡ false → false ≡ both b (goes_on text p (rows_from t (first + 1) (count - 1)))
        by true z = absurd (let z : ◌≡◌ {A = ℕ} 0 1 = cc in omega arith)
        by false z = refl

    pub good_first : b ≡ true → goes_on text p (rows_from t (first + 1) (count - 1)) ≡ is_record text (rows_from t first count)
    good_first n = rw from_first (by b n)
      where
        by : (b : Bool) → b ≡ true → goes_on text p (rows_from t (first + 1) (count - 1)) ≡ both b (goes_on text p (rows_from t (first + 1) (count - 1)))
        by true z = refl
        by false z = absurd (let z : ◌≡◌ {A = ℕ} 0 1 = cc in omega arith)

  module _ (i : ℕ) (p : Row) (e : goes_on text p (rows_from t (first + i) (count - i)) ≡ is_record text (rows_from t first count)) where
    module _ (h : i < count) (r : Row) (er : r ≡ row_at t (first + i)) (b : Bool) (eb : b ≡ both (is_row text r) (rises text p r)) where
      next_row : both b (goes_on text r (rows_from t (first + (i + 1)) (count - (i + 1)))) ≡ is_record text (rows_from t first count)
      next_row =
          let k : count - i ≡ suc (count - (i + 1)) = omega arith in
          let f : first + (i + 1) ≡ suc (first + i) = omega arith in
          rw (f, eb, er) (ap (λ (n : ℕ). goes_on text p (rows_from t (first + i) n)) (sym k) ∙ e)

      pub bad_next : b ≡ false → false ≡ is_record text (rows_from t first count)
      bad_next n = by b n next_row
        where
          by : (b : Bool) → b ≡ false → both b (goes_on text r (rows_from t (first + (i + 1)) (count - (i + 1)))) ≡ is_record text (rows_from t first count)
              → false ≡ is_record text (rows_from t first count)
          by true z q = absurd (let z : ◌≡◌ {A = ℕ} 0 1 = cc in omega arith)
          by false z q = q

      pub good_next : b ≡ true → goes_on text r (rows_from t (first + (i + 1)) (count - (i + 1))) ≡ is_record text (rows_from t first count)
      good_next n = by b n next_row
        where
          by : (b : Bool) → b ≡ true → both b (goes_on text r (rows_from t (first + (i + 1)) (count - (i + 1)))) ≡ is_record text (rows_from t first count)
              → goes_on text r (rows_from t (first + (i + 1)) (count - (i + 1))) ≡ is_record text (rows_from t first count)
          by true z q = q
          by false z q = absurd (let z : ◌≡◌ {A = ℕ} 0 1 = cc in omega arith)

    pub whole_record : count ≤ i → true ≡ is_record text (rows_from t first count)
    whole_record h =
        let z : count - i ≡ 0 = omega arith in
        rw z at e
