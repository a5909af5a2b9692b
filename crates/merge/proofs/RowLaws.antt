-- Rows from one row up to another, put, measured, and cut at a name. Assumes nothing.
use mathlib.Core.Path.{◌≡◌, refl, sym, ap, ◌∙◌}
use mathlib.Core.Bool.{Bool, true, false}
use mathlib.Core.List.{List, [], ◌∷◌, ◌++◌, append_assoc, append-nil, map}
use Prim.Native.Nat.{ℕ, zero, suc, ◌+◌, ◌-◌, ◌≤◌, ◌<◌}
use native.Mathlib.Nat.{add-zero}
use native.Mathlib.Omega.{arith}
use lib.ListN.{length, take, length-append}
use lib.Seq.{sets, length-sets}
use lib.Dec.{leb}
use borrow.Author.Tests.{leb-false}
use Rattle.text.specs.Pick.{pick}
use Rattle.letters.specs.Order.{order, order_raised}
use Rattle.letters.specs.Same.{same, same_raised}
use Rattle.adif.specs.Grammar.{Field}
use Rattle.rowcheck.specs.Check.{Row, name_in, value_in, is_less}
use Rattle.output.specs.Put.{Put, Room}
use Rattle.text.proofs.StoreLaws.{sets_append}
use Rattle.fields.specs.Written.{field_text, fields_text}
use Rattle.fields.specs.Parts.{field_as}
use Rattle.headers.specs.Answer.{capped, capped_after}
use Rattle.headers.proofs.SizeLaws.{after}
use Rattle.writer.specs.Rows.{row_at, rows_from, row_field}
use Rattle.writer.proofs.RowLaws.{rows_cons}
use Rattle.tables.specs.declared.Name.{Name}
use Rattle.cellfields.specs.Fields.{name_at, column_name}
use Rattle.cellfields.proofs.NameLaws.{column_capital, column_front}
use Rattle.merge.specs.Merge.{below, above}
use Rattle.merge.specs.Steps.{fields_between, Cuts}

-- ---- the rows
module _ (text t : List ℕ) where
  pub none_between : (a b : ℕ) → b ≤ a → fields_between text t a b ≡ []
  unfolding fields_between
  none_between a b h =
      let z : b - a ≡ 0 = omega arith in
      rw z refl

  pub first_between : (i b : ℕ) → i < b → (row : Row) → row ≡ row_at t i → fields_between text t i b ≡ row_field text row ∷ fields_between text t (i + 1) b
  unfolding fields_between
  first_between i b h row e = rw (rows_cons t b i h, e) refl

  snoc : (a m : ℕ) → map (row_field text) (rows_from t a (suc m)) ≡ map (row_field text) (rows_from t a m) ++ (row_field text (row_at t (a + m)) ∷ [])
  snoc a zero = rw (add-zero a) refl
  snoc a (suc m) =
      let z : suc a + m ≡ a + suc m = omega arith in
      ap (λ (l : List Field). row_field text (row_at t a) ∷ l) (rw z at (snoc (suc a) m))

  last_between : (a i : ℕ) → a ≤ i → (row : Row) → row ≡ row_at t i → fields_between text t a (i + 1) ≡ fields_between text t a i ++ (row_field text row ∷ [])
  unfolding fields_between
  last_between a i h row e =
      let z : i + 1 - a ≡ suc (i - a) = omega arith in
      let y : a + (i - a) ≡ i = omega arith in
      rw (z, e) (rw y at (snoc a (i - a)))

-- ---- the field of a row
module _ (text : List ℕ) (row : Row) (name value : List ℕ) (en : name ≡ name_in text row) (ev : value ≡ value_in text row) where
  field_is : field_text (field_as name value) ≡ field_text (row_field text row)
  field_is = rw (en, ev) refl

  pub row_long : (r : ℕ) → r ≡ length (field_text (field_as name value)) → r ≡ length (field_text (row_field text row))
  row_long r e = e ∙ ap length field_is

  pub row_fits : (was : List ℕ) (at : ℕ) → Room was at (field_text (row_field text row)) → Room was at (field_text (field_as name value))
  row_fits was at h = rw field_is h

  pub row_put : (r : ℕ) (was now : List ℕ) (at : ℕ) → Put r was now at (field_text (field_as name value)) → Put r was now at (field_text (row_field text row))
  row_put r was now at h = rw field_is at h

-- ---- the name of a column
module _ (k : ℕ) (n : Name) (e : n ≡ column_name k) where
  pub name_fits : n.len ≤ 12
  name_fits = (column_front k n e).0

  pub name_front : take n.len n.bytes ≡ name_at k
  name_front = (column_front k n e).1

-- ---- cut at a name: the rows before row i are below it
unfoldable pub Cutting : List ℕ → List ℕ → ℕ → ℕ → ℕ → ℕ → Type 0
Cutting text t first count k i =
    (below (name_at k) (fields_between text t first count) ≡ fields_between text t first i ++ below (name_at k) (fields_between text t i count))
    × (above (name_at k) (fields_between text t first count) ≡ above (name_at k) (fields_between text t i count))

pub cut_start : (text t : List ℕ) (first count k : ℕ) → Cutting text t first count k first
unfolding Cutting
cut_start text t first count k = (rw (none_between text t first first (omega arith)) refl, refl)

module _ (text t : List ℕ) (first count k i : ℕ) (a : first ≤ i) (h : i < count) (row : Row) (er : row ≡ row_at t i) (x : List ℕ) (ex : x ≡ name_at k)
    (b : Bool) (eb : b ≡ is_less (order_raised (name_in text row) x)) (c : Cutting text t first count k i) where
  lower : is_less (order (row_field text row).name (name_at k)) ≡ b
  unfolding order_raised
  lower = sym (eb ∙ rw (ex, column_capital k) refl)

  pub cut_on : b ≡ true → Cutting text t first count k (i + 1)
  unfolding Cutting
  cut_on g =
      let e : fields_between text t i count ≡ row_field text row ∷ fields_between text t (i + 1) count = first_between text t i count h row er in
      let y : is_less (order (row_field text row).name (name_at k)) ≡ true = lower ∙ g in
      let l : below (name_at k) (fields_between text t first count) ≡ fields_between text t first i ++ (row_field text row ∷ below (name_at k) (fields_between text t (i + 1) count))
      = c.0 ∙ rw (e, y) refl in
      let u : above (name_at k) (fields_between text t first count) ≡ above (name_at k) (fields_between text t (i + 1) count) = c.1 ∙ rw (e, y) refl in
      (l ∙ rw (last_between text t first i a row er, append_assoc) refl, u)

  module _ (g : b ≡ false) where
    stops : is_less (order (row_field text row).name (name_at k)) ≡ false
    stops = lower ∙ g

    rest : fields_between text t i count ≡ row_field text row ∷ fields_between text t (i + 1) count
    rest = first_between text t i count h row er

    under : below (name_at k) (fields_between text t first count) ≡ fields_between text t first i
    unfolding Cutting
    under = c.0 ∙ rw (rest, stops, append-nil) refl

    module _ (s : Bool) (es : s ≡ same_raised (name_in text row) x) where
      alike : same (row_field text row).name (name_at k) ≡ s
      unfolding same_raised
      alike = sym (es ∙ rw (ex, column_capital k) refl)

      pub cut_same : s ≡ true → Cuts text t first count k (record { below = i; above = i + 1 })
      unfolding Cutting
      cut_same f =
          let y : same (row_field text row).name (name_at k) ≡ true = alike ∙ f in
          record { rises = a; inside = omega arith; ends = omega arith; lower = under; upper = c.1 ∙ rw (rest, stops, y) refl }

      pub cut_above : s ≡ false → Cuts text t first count k (record { below = i; above = i })
      unfolding Cutting
      cut_above f =
          let y : same (row_field text row).name (name_at k) ≡ false = alike ∙ f in
          record { rises = a; inside = omega arith; ends = omega arith; lower = under; upper = c.1 ∙ rw (rest, stops, y) refl }

pub cut_end : (text t : List ℕ) (first count k i : ℕ) → first ≤ count → i ≤ count → count ≤ i → Cutting text t first count k i
    → Cuts text t first count k (record { below = count; above = count })
unfolding Cutting
cut_end text t first count k i a b h c =
    let e : i ≡ count = omega arith in
    record {
      rises = a;
      inside = omega arith;
      ends = omega arith;
      lower = c.0 ∙ rw (none_between text t i count h, append-nil) (ap (fields_between text t first) e);
      upper = c.1 ∙ rw (none_between text t i count h, none_between text t count count (omega arith)) refl;
    }

-- ---- put
-- what is left to put, where all of it went to `from`
unfoldable pub Rest : List ℕ → List ℕ → ℕ → ℕ → List ℕ → List ℕ → Type 0
Rest was now from at rest all = (at + length rest ≡ from + length all) × (sets now at rest ≡ sets was from all)

pub rest_start : (l : List ℕ) (at : ℕ) (w : List ℕ) → Rest l l at at w w
unfolding Rest
rest_start l at w = (refl, refl)

rest_length : (was now : List ℕ) (from at : ℕ) (rest all : List ℕ) → Rest was now from at rest all → length now ≡ length was
unfolding Rest
rest_length was now from at rest all p = sym (length-sets now at rest) ∙ ap length p.1 ∙ length-sets was from all

rest_on : (was now : List ℕ) (from at : ℕ) (a rest all : List ℕ) (q : ℕ) (mid : List ℕ) → Put q now mid at a → Rest was now from at (a ++ rest) all → Rest was mid from q rest all
unfolding Rest Put
rest_on was now from at a rest all q mid p l =
    (omega (arith, p.0, l.0, length-append a rest), rw (p.1, p.0) (sym (sets_append now at a rest)) ∙ l.1)

rest_room : (was now : List ℕ) (from at : ℕ) (a rest all : List ℕ) → Room was from all → Rest was now from at (a ++ rest) all → Room now at a
unfolding Room Rest
rest_room was now from at a rest all r l = omega (arith, rest_length was now from at (a ++ rest) all l, length-append a rest, l.0)

module _ (text t : List ℕ) (first end i : ℕ) (h : i < end) (row : Row) (er : row ≡ row_at t i) (was now : List ℕ) (from at : ℕ)
    (l : Rest was now from at (fields_text (fields_between text t i end)) (fields_text (fields_between text t first end))) where
  here : Rest was now from at (field_text (row_field text row) ++ fields_text (fields_between text t (i + 1) end)) (fields_text (fields_between text t first end))
  here = rw (first_between text t i end h row er) at l

  pub rows_room : Room was from (fields_text (fields_between text t first end)) → Room now at (field_text (row_field text row))
  rows_room r = rest_room was now from at (field_text (row_field text row)) _ _ r here

  pub rows_on : (q : ℕ) (mid : List ℕ) → Put q now mid at (field_text (row_field text row)) → Rest was mid from q (fields_text (fields_between text t (i + 1) end)) (fields_text (fields_between text t first end))
  rows_on q mid p = rest_on was now from at (field_text (row_field text row)) _ _ q mid p here

pub rows_end : (text t : List ℕ) (first end i : ℕ) → end ≤ i → (was now : List ℕ) (from at : ℕ)
    → Rest was now from at (fields_text (fields_between text t i end)) (fields_text (fields_between text t first end)) → Put at was now from (fields_text (fields_between text t first end))
unfolding Rest Put
rows_end text t first end i h was now from at l =
    let z : fields_between text t i end ≡ [] = none_between text t i end h in
    let a : at + 0 ≡ from + length (fields_text (fields_between text t first end)) = rw z at l.0 in
    (omega arith, rw z at l.1)

-- ---- measured
pub capped_is : (n : ℕ) → n ≤ 16777217 → n ≡ capped n
unfolding capped
capped_is n h = by (leb n 16777216) refl
  where
    by : (b : Bool) → leb n 16777216 ≡ b → n ≡ pick b n 16777217
    by true e = refl
    by false e = omega (arith, leb-false n 16777216 e)

module _ (text t : List ℕ) (size first end i : ℕ) where
  pub size_on : i < end → (row : Row) → row ≡ row_at t i → (all k next : ℕ) → k ≡ length (field_text (row_field text row)) → next ≡ capped (all + k)
      → capped_after all (fields_text (fields_between text t i end)) ≡ capped_after size (fields_text (fields_between text t first end))
      → capped_after next (fields_text (fields_between text t (i + 1) end)) ≡ capped_after size (fields_text (fields_between text t first end))
  unfolding capped_after
  size_on h row er all k next ek en e =
      let f : fields_between text t i end ≡ row_field text row ∷ fields_between text t (i + 1) end = first_between text t i end h row er in
      let g : length (fields_text (fields_between text t i end)) ≡ length (field_text (row_field text row) ++ fields_text (fields_between text t (i + 1) end)) = rw f refl in
      after next (all + k) (fields_text (fields_between text t (i + 1) end)) en
      ∙ ap capped (omega (arith, g, ek, length-append (field_text (row_field text row)) (fields_text (fields_between text t (i + 1) end))))
      ∙ e

  pub size_end : end ≤ i → (all : ℕ) → all ≤ 16777217
      → capped_after all (fields_text (fields_between text t i end)) ≡ capped_after size (fields_text (fields_between text t first end))
      → all ≡ capped_after size (fields_text (fields_between text t first end))
  unfolding capped_after
  size_end h all b e =
      let z : fields_between text t i end ≡ [] = none_between text t i end h in
      capped_is all b ∙ ap capped (sym (add-zero all)) ∙ (rw z at e)
