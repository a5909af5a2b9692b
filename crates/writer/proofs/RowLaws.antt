-- Rows of a table, one after the other: their text, put and measured. Assumes nothing.
use mathlib.Core.Path.{◌≡◌, refl, ap, ◌∙◌}
use mathlib.Core.Bool.{Bool, true, false}
use mathlib.Core.List.{List, [], ◌∷◌, ◌++◌, append-nil}
use Prim.Native.Nat.{ℕ, suc, ◌+◌, ◌-◌, ◌≤◌, ◌<◌}
use native.Mathlib.Nat.{sub-zero}
use native.Mathlib.Omega.{arith}
use lib.ListN.{length, get_or, drop, length-append, length-take, length-drop}
use Rattle.adif.specs.Reading.{part}
use Rattle.fields.specs.Written.{field_text, end_of_record}
use Rattle.fields.specs.Parts.{field_as}
use Rattle.fields.proofs.FieldLaws.{Left, left_start, left_on, left_room, left_end}
use Rattle.output.specs.Put.{Put, Room}
use Rattle.output.proofs.PutLaws.{put_then, room_first, room_next}
use Rattle.rowcheck.specs.Check.{Row, record_in, name_in, value_in}
use Rattle.writer.specs.Rows.{row_at, rows_from, rows_of, row_field, ends_before, end_text, rows_text}

-- ---- the end of a record
module _ (t : List ℕ) (count i : ℕ) (h : i < count) where
  abbrev pub rest : List Row
  rest = rows_from t (i + 1) (count - (i + 1))

  pub rows_cons : rows_from t i (count - i) ≡ row_at t i ∷ rest
  rows_cons =
      let e : count - i ≡ suc (count - (i + 1)) = omega arith in
      let f : i + 1 ≡ suc i = omega arith in
      rw (e, f) refl

-- from the last row to the first
pub row_before : (t : List ℕ) (first count i : ℕ) → 0 < i → i ≤ count
    → rows_from t (first + (i - 1)) (count - (i - 1)) ≡ row_at t (first + (i - 1)) ∷ rows_from t (first + i) (count - i)
row_before t first count i h l =
    let e : count - (i - 1) ≡ suc (count - i) = omega arith in
    let f : suc (first + (i - 1)) ≡ first + i = omega arith in
    rw (e, f) refl

-- ---- a row
part_short : (text : List ℕ) (a n : ℕ) → length (part text a n) ≤ length text
part_short text a n = omega (arith, length-take n (drop a text), length-drop a text)

module _ (text : List ℕ) (row : Row) (name value : List ℕ) (en : name ≡ name_in text row) (ev : value ≡ value_in text row) where
  field_is : field_text (field_as name value) ≡ field_text (row_field text row)
  field_is = rw (en, ev) refl

  pub parts_short : length text ≤ 16777216 → length name + length value ≤ 33554432
  parts_short h =
      omega (arith, ap length en, ap length ev, part_short text (get_or row 1 0) (get_or row 2 0), part_short text (get_or row 3 0) (get_or row 4 0))

  module _ (ends : Bool) where
    pub size_end : (k : ℕ) → k ≡ length (field_text (field_as name value)) → ends ≡ true → k + 6 ≡ length (field_text (row_field text row) ++ end_text ends)
    size_end k e h = rw h (omega (arith, e, ap length field_is, length-append (field_text (row_field text row)) end_of_record))

    pub size_on : (k : ℕ) → k ≡ length (field_text (field_as name value)) → ends ≡ false → k ≡ length (field_text (row_field text row) ++ end_text ends)
    size_on k e h = rw (h, append-nil (field_text (row_field text row))) (e ∙ ap length field_is)

    module _ (was : List ℕ) (at : ℕ) where
      pub row_room : Room was at (field_text (row_field text row) ++ end_text ends) → Room was at (field_text (field_as name value))
      row_room h = rw field_is (room_first was at (field_text (row_field text row)) (end_text ends) h)

      module _ (q : ℕ) (mid : List ℕ) (p : Put q was mid at (field_text (field_as name value))) where
        here : Put q was mid at (field_text (row_field text row))
        here = rw field_is at p

        pub row_room_end : Room was at (field_text (row_field text row) ++ end_text ends) → ends ≡ true → Room mid q end_of_record
        row_room_end h e = rw e at (room_next was at (field_text (row_field text row)) (end_text ends) h q mid here)

        pub row_put_end : (r : ℕ) (now : List ℕ) → ends ≡ true → Put r mid now q end_of_record → Put r was now at (field_text (row_field text row) ++ end_text ends)
        row_put_end r now e s = rw e (put_then r q was mid now at (field_text (row_field text row)) end_of_record here s)

        pub row_put : ends ≡ false → Put q was mid at (field_text (row_field text row) ++ end_text ends)
        row_put e = rw (e, append-nil (field_text (row_field text row))) here

-- ---- all rows
module _ (text t : List ℕ) (count : ℕ) where
  abbrev pub left : ℕ → List ℕ
  left i = rows_text text (rows_from t i (count - i))

  abbrev pub whole : List ℕ
  whole = rows_text text (rows_of t count)

  pub left_all : left 0 ≡ whole
  unfolding rows_of
  left_all = rw (sub-zero count) refl

  pub rows_start : (was : List ℕ) → Left was was 0 (left 0) whole
  rows_start was = rw left_all (left_start was whole)

  pub left_none : (i : ℕ) → count ≤ i → left i ≡ []
  unfolding rows_text
  left_none i h =
      let z : count - i ≡ 0 = omega arith in
      rw z refl

  module _ (i : ℕ) (h : i < count) (row : Row) (er : row ≡ row_at t i) (ends : Bool) (ee : ends ≡ ends_before (record_in (row_at t i)) (rows_from t (i + 1) (count - (i + 1)))) where
    pub left_cons : left i ≡ (field_text (row_field text row) ++ end_text ends) ++ left (i + 1)
    unfolding rows_text
    left_cons = rw (rows_cons t count i h, er, ee) refl

    module _ (was now : List ℕ) (at : ℕ) (l : Left was now at (left i) whole) where
      cons : Left was now at ((field_text (row_field text row) ++ end_text ends) ++ left (i + 1)) whole
      cons = rw left_cons at l

      pub rows_room : Room was 0 whole → Room now at (field_text (row_field text row) ++ end_text ends)
      rows_room r = left_room was now at (field_text (row_field text row) ++ end_text ends) (left (i + 1)) whole r cons

      pub rows_on : (q : ℕ) (mid : List ℕ) → Put q now mid at (field_text (row_field text row) ++ end_text ends) → Left was mid q (left (i + 1)) whole
      rows_on q mid p = left_on was now at (field_text (row_field text row) ++ end_text ends) (left (i + 1)) whole q mid p cons

  pub rows_end : (i : ℕ) (was now : List ℕ) (at : ℕ) → count ≤ i → Left was now at (left i) whole → Put at was now 0 whole
  rows_end i was now at h l = left_end was now at whole (rw (left_none i h) at l)
