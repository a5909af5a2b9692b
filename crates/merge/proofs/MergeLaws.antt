-- What is left of the text of columns and rows in one, put and measured. Assumes nothing.
use mathlib.Core.Path.{◌≡◌, refl, sym, ap, ◌∙◌}
use mathlib.Core.Bool.{Bool, true, false}
use mathlib.Core.List.{List, [], ◌∷◌, ◌++◌, append_assoc}
use Prim.Native.Nat.{ℕ, ◌+◌, ◌≤◌, ◌<◌}
use native.Mathlib.Nat.{zero-add}
use native.Mathlib.Numerals.{add-one}
use native.Mathlib.Omega.{arith}
use lib.ListN.{length, get_or, drop, length-append, drop_of_length-le}
use lib.Seq.{drop-cons}
use Rattle.adif.specs.Grammar.{Field}
use Rattle.output.specs.Put.{Put, Room}
use Rattle.fields.specs.Written.{fields_text, record_text, end_of_record}
use Rattle.fields.proofs.FieldLaws.{Left, left_start, left_on, left_room, left_end}
use Rattle.headers.specs.Answer.{capped, capped_after}
use Rattle.headers.proofs.SizeLaws.{after}
use Rattle.cells.specs.Cells.{column_order, cell_fields, is_dropped}
use Rattle.cells.specs.declared.Cell.{Cell}
use Rattle.cellfields.specs.Fields.{name_at, cell_field}
use Rattle.cellfields.proofs.NameLaws.{names_from}
use Rattle.merge.specs.Merge.{below, merged}
use Rattle.merge.specs.Steps.{fields_between, merged_text, Cuts}
use Rattle.merge.specs.declared.Cut.{Cut}

-- fields before others, and before the end of the record
fields_then : (xs ys : List Field) → record_text (xs ++ ys) ≡ fields_text xs ++ record_text ys
fields_then [] ys = refl
fields_then (x ∷ xs) ys = rw (fields_then xs ys, append_assoc) refl

fields_end : (xs : List Field) → record_text xs ≡ fields_text xs ++ end_of_record
fields_end [] = refl
fields_end (x ∷ xs) = rw (fields_end xs, append_assoc) refl

module _ (text : List ℕ) (cells : List Cell) (t : List ℕ) (count : ℕ) where
  -- the text of the columns from column k on and of the rows from row `first` on
  unfoldable pub rest : ℕ → ℕ → List ℕ
  rest k first = record_text (merged (cell_fields text (drop k column_order) (drop k cells)) (fields_between text t first count))

  pub rest_all : rest 0 0 ≡ merged_text text cells t count
  unfolding rest merged_text
  rest_all = refl

  pub rest_last : (k first : ℕ) → 13 ≤ k → rest k first ≡ fields_text (fields_between text t first count) ++ end_of_record
  unfolding rest column_order
  rest_last k first h = rw (drop_of_length-le column_order h) (fields_end (fields_between text t first count))

  module _ (l : length cells ≡ 13) (k : ℕ) (h : k < 13) (d : Cell) (b : Bool) (eb : b ≡ is_dropped (get_or cells k d)) where
    values : drop k cells ≡ get_or cells k d ∷ drop (k + 1) cells
    values = rw add-one (drop-cons cells k d (omega arith))

    pub rest_skip : b ≡ true → (first : ℕ) → rest k first ≡ rest (k + 1) first
    unfolding rest
    rest_skip g first =
        let y : is_dropped (get_or cells k d) ≡ true = sym eb ∙ g in
        rw (names_from k h, values, y) refl

    module _ (g : b ≡ false) (first : ℕ) (c : Cut) (p : Cuts text t first count k c) where
      pub rest_step : rest k first ≡ fields_text (fields_between text t first c.below) ++ (cell_field text k (get_or cells k d) ++ rest (k + 1) c.above)
      unfolding rest cell_field
      rest_step =
          let y : is_dropped (get_or cells k d) ≡ false = sym eb ∙ g in
          rw (names_from k h, values, y) (fields_then (below (name_at k) (fields_between text t first count)) _ ∙ rw (p.lower, p.upper) refl)

-- ---- put
module _ (text : List ℕ) (cells : List Cell) (t : List ℕ) (count : ℕ) where
  pub merge_start : (was : List ℕ) → Left was was 0 (rest text cells t count 0 0) (merged_text text cells t count)
  merge_start was = rw (rest_all text cells t count) (left_start was (merged_text text cells t count))

  module _ (l : length cells ≡ 13) (k : ℕ) (h : k < 13) (d : Cell) (b : Bool) (eb : b ≡ is_dropped (get_or cells k d))
      (was now : List ℕ) (at first : ℕ) (s : Left was now at (rest text cells t count k first) (merged_text text cells t count)) where
    pub merge_skip : b ≡ true → Left was now at (rest text cells t count (k + 1) first) (merged_text text cells t count)
    merge_skip g = rw (rest_skip text cells t count l k h d b eb g first) at s

    module _ (g : b ≡ false) (c : Cut) (p : Cuts text t first count k c) where
      here : Left was now at (fields_text (fields_between text t first c.below) ++ (cell_field text k (get_or cells k d) ++ rest text cells t count (k + 1) c.above)) (merged_text text cells t count)
      here = rw (rest_step text cells t count l k h d b eb g first c p) at s

      pub merge_rows : Room was 0 (merged_text text cells t count) → Room now at (fields_text (fields_between text t first c.below))
      merge_rows r = left_room was now at _ _ _ r here

      module _ (q : ℕ) (mid : List ℕ) (w : Put q now mid at (fields_text (fields_between text t first c.below))) where
        then_column : Left was mid q (cell_field text k (get_or cells k d) ++ rest text cells t count (k + 1) c.above) (merged_text text cells t count)
        then_column = left_on was now at _ _ _ q mid w here

        pub merge_column : Room was 0 (merged_text text cells t count) → Room mid q (cell_field text k (get_or cells k d))
        merge_column r = left_room was mid q _ _ _ r then_column

        pub merge_on : (q' : ℕ) (mid' : List ℕ) → Put q' mid mid' q (cell_field text k (get_or cells k d)) → Left was mid' q' (rest text cells t count (k + 1) c.above) (merged_text text cells t count)
        merge_on q' mid' v = left_on was mid q _ _ _ q' mid' v then_column

  module _ (k : ℕ) (h : 13 ≤ k) (was now : List ℕ) (at first : ℕ) (s : Left was now at (rest text cells t count k first) (merged_text text cells t count)) where
    last : Left was now at (fields_text (fields_between text t first count) ++ end_of_record) (merged_text text cells t count)
    last = rw (rest_last text cells t count k first h) at s

    pub merge_last : Room was 0 (merged_text text cells t count) → Room now at (fields_text (fields_between text t first count))
    merge_last r = left_room was now at _ _ _ r last

    module _ (q : ℕ) (mid : List ℕ) (w : Put q now mid at (fields_text (fields_between text t first count))) where
      then_end : Left was mid q end_of_record (merged_text text cells t count)
      then_end = left_on was now at _ _ _ q mid w last

      -- the end of the record is all that is left
      then_all : Left was mid q (end_of_record ++ []) (merged_text text cells t count)
      then_all = then_end

      pub merge_eor : Room was 0 (merged_text text cells t count) → Room mid q end_of_record
      merge_eor r = left_room was mid q end_of_record [] _ r then_all

      pub merge_end : (r : ℕ) (out : List ℕ) → Put r mid out q end_of_record → Put r was out 0 (merged_text text cells t count)
      merge_end r out v = left_end was out r _ (left_on was mid q end_of_record [] _ r out v then_all)

-- ---- measured
two_parts : (a w : List ℕ) (size rows : ℕ) → rows ≡ capped_after size a → capped (rows + length w) ≡ capped_after size (a ++ w)
unfolding capped_after
two_parts a w size rows e = after rows (size + length a) w e ∙ ap capped (omega (arith, length-append a w))

module _ (text : List ℕ) (cells : List Cell) (t : List ℕ) (count : ℕ) where
  pub measure_start : capped_after 0 (rest text cells t count 0 0) ≡ capped (length (merged_text text cells t count))
  unfolding capped_after
  measure_start = rw (rest_all text cells t count, zero-add) refl

  module _ (size k first : ℕ) (e : capped_after size (rest text cells t count k first) ≡ capped (length (merged_text text cells t count))) where
    module _ (l : length cells ≡ 13) (h : k < 13) (d : Cell) (b : Bool) (eb : b ≡ is_dropped (get_or cells k d)) where
      pub measure_skip : b ≡ true → capped_after size (rest text cells t count (k + 1) first) ≡ capped (length (merged_text text cells t count))
      measure_skip g = rw (rest_skip text cells t count l k h d b eb g first) at e

      pub measure_on : b ≡ false → (c : Cut) → Cuts text t first count k c → (rows s next : ℕ)
          → rows ≡ capped_after size (fields_text (fields_between text t first c.below)) → s ≡ length (cell_field text k (get_or cells k d)) → next ≡ capped (rows + s)
          → capped_after next (rest text cells t count (k + 1) c.above) ≡ capped (length (merged_text text cells t count))
      measure_on g c p rows s next er es en =
          after next (rows + s) (rest text cells t count (k + 1) c.above) en
          ∙ ap capped (omega (arith, es, length-append (cell_field text k (get_or cells k d)) (rest text cells t count (k + 1) c.above)))
          ∙ two_parts (fields_text (fields_between text t first c.below)) (cell_field text k (get_or cells k d) ++ rest text cells t count (k + 1) c.above) size rows er
          ∙ (rw (rest_step text cells t count l k h d b eb g first c p) at e)

    pub measure_end : 13 ≤ k → (rows r : ℕ) → rows ≡ capped_after size (fields_text (fields_between text t first count)) → r ≡ capped (rows + 6)
        → r ≡ capped (length (merged_text text cells t count))
    measure_end h rows r er en =
        en ∙ two_parts (fields_text (fields_between text t first count)) end_of_record size rows er ∙ (rw (rest_last text cells t count k first h) at e)
