-- The QSO to which a record's rows are mapped says the contact to which the record's fields are mapped. Assumes nothing.
use Rattle.std.specs.Prelude.{Option, Some, None}
use Rattle.decimal.specs.declared.Signed.{Signed}
use mathlib.Core.Path.{◌≡◌, refl, ap}
use mathlib.Core.Bool.{Bool, true, false}
use mathlib.Core.List.{List, [], ◌∷◌, map}
use Prim.Native.Nat.{ℕ}
use lib.ListN.{get_or}
use Rattle.text.specs.Ascii.{ascii}
use Rattle.text.specs.Pick.{pick}
use Rattle.text.specs.Space.{trimmed}
use Rattle.letters.specs.Capitals.{raised, capitals}
use Rattle.letters.specs.Same.{same, same_raised}
use Rattle.decimal.specs.Decimal.{signed_of}
use Rattle.mhz.specs.Reading.{read_hertz}
use Rattle.mhz.specs.declared.Hz.{Hz}
use Rattle.mhz.specs.declared.Hz.TheVariants.{Absent, Is, Outside}
use Rattle.tables.specs.Place.{absent, part, value, value_place}
use Rattle.adif.specs.Grammar.{Field}
use Rattle.rowcheck.specs.Check.{Row, name_in}
use Rattle.writer.specs.Rows.{row_field}
use Rattle.columns.specs.Columns.{column_names, is_column}
use Rattle.columns.proofs.ColumnLaws.{named_raised}
use Rattle.model.specs.Contact.{contact, hertz, entity, signed}
use Rattle.model.specs.Flags.{one_if}
use Rattle.model.specs.declared.Dxcc.{Dxcc}
use Rattle.mapping.specs.Contact.{value_named, hertz_read, frequency_read, entity_read, dxcc_read, extra_fields, contact_of}
use Rattle.mapping.specs.Mapping.{place_named, columns_of, extra_rows, frequency_of, dxcc_of, dxcc_at, qso_with}
use Rattle.mapping.proofs.AnswerLaws.{no_hertz, no_number}

-- the names are in capitals
in_capitals_0 : capitals (ascii "CALL") ≡ ascii "CALL"
unfolding raised
in_capitals_0 = refl

in_capitals_1 : capitals (ascii "QSO_DATE") ≡ ascii "QSO_DATE"
unfolding raised
in_capitals_1 = refl

in_capitals_2 : capitals (ascii "TIME_ON") ≡ ascii "TIME_ON"
unfolding raised
in_capitals_2 = refl

in_capitals_3 : capitals (ascii "BAND") ≡ ascii "BAND"
unfolding raised
in_capitals_3 = refl

in_capitals_4 : capitals (ascii "MODE") ≡ ascii "MODE"
unfolding raised
in_capitals_4 = refl

in_capitals_5 : capitals (ascii "SUBMODE") ≡ ascii "SUBMODE"
unfolding raised
in_capitals_5 = refl

in_capitals_6 : capitals (ascii "FREQ") ≡ ascii "FREQ"
unfolding raised
in_capitals_6 = refl

in_capitals_7 : capitals (ascii "FREQ_RX") ≡ ascii "FREQ_RX"
unfolding raised
in_capitals_7 = refl

in_capitals_8 : capitals (ascii "BAND_RX") ≡ ascii "BAND_RX"
unfolding raised
in_capitals_8 = refl

in_capitals_9 : capitals (ascii "RST_SENT") ≡ ascii "RST_SENT"
unfolding raised
in_capitals_9 = refl

in_capitals_10 : capitals (ascii "RST_RCVD") ≡ ascii "RST_RCVD"
unfolding raised
in_capitals_10 = refl

in_capitals_11 : capitals (ascii "GRIDSQUARE") ≡ ascii "GRIDSQUARE"
unfolding raised
in_capitals_11 = refl

in_capitals_12 : capitals (ascii "DXCC") ≡ ascii "DXCC"
unfolding raised
in_capitals_12 = refl

hertz_said : (h : Hz) → hertz (frequency_of h) ≡ hertz_read h
hertz_said Absent = refl
hertz_said (Is n) = refl
hertz_said Outside = refl

entity_said : (s : Option Signed) → entity (dxcc_of s) ≡ entity_read s
entity_said (Some n) = by n.negative
  where
    by : (b : Bool) → entity (record { given = 1; negative = one_if b; size = n.size }) ≡ Some (signed b n.size)
    by true = refl
    by false = refl
entity_said None = refl

module _ (text : List ℕ) where
  -- a column, by its name in capitals
  named_value : (name : List ℕ) → capitals name ≡ name → (rows : List Row) → value text (place_named text rows name) ≡ value_named name (map (row_field text) rows)
  unfolding value part same_raised
  named_value name c [] = refl
  named_value name c (r ∷ rs) = rw c (by (same (capitals (name_in text r)) name) (named_value name c rs))
    where
      by : (t : Bool) → value text (place_named text rs name) ≡ value_named name (map (row_field text) rs)
          → value text (pick t (value_place r) (place_named text rs name)) ≡ pick t (Some (row_field text r).value) (value_named name (map (row_field text) rs))
      by true e = refl
      by false e = e

  frequency_said : (name : List ℕ) (rows : List Row) → hertz (frequency_of (read_hertz (part text (place_named text rows name)))) ≡ frequency_read (value text (place_named text rows name))
  unfolding value part
  frequency_said name [] = rw no_hertz refl
  frequency_said name (r ∷ rs) = by (same_raised (name_in text r) name) (frequency_said name rs)
    where
      by : (t : Bool) → hertz (frequency_of (read_hertz (part text (place_named text rs name)))) ≡ frequency_read (value text (place_named text rs name))
          → hertz (frequency_of (read_hertz (part text (pick t (value_place r) (place_named text rs name))))) ≡ frequency_read (value text (pick t (value_place r) (place_named text rs name)))
      by true e = hertz_said (read_hertz (row_field text r).value)
      by false e = e

  dxcc_said : (name : List ℕ) (rows : List Row) → entity (dxcc_of (signed_of (trimmed (part text (place_named text rows name))))) ≡ dxcc_read (value text (place_named text rows name))
  unfolding value part
  dxcc_said name [] = rw no_number refl
  dxcc_said name (r ∷ rs) = by (same_raised (name_in text r) name) (dxcc_said name rs)
    where
      by : (t : Bool) → entity (dxcc_of (signed_of (trimmed (part text (place_named text rs name))))) ≡ dxcc_read (value text (place_named text rs name))
          → entity (dxcc_of (signed_of (trimmed (part text (pick t (value_place r) (place_named text rs name)))))) ≡ dxcc_read (value text (pick t (value_place r) (place_named text rs name)))
      by true e = entity_said (signed_of (trimmed (row_field text r).value))
      by false e = e

  -- the extra fields
  pub extra_said : (rows : List Row) → map (row_field text) (extra_rows text rows) ≡ extra_fields (map (row_field text) rows)
  extra_said [] = refl
  extra_said (r ∷ rs) = rw (named_raised (name_in text r)) (by (is_column (name_in text r)) (extra_said rs))
    where
      by : (t : Bool) → map (row_field text) (extra_rows text rs) ≡ extra_fields (map (row_field text) rs)
          → map (row_field text) (pick t (extra_rows text rs) (r ∷ extra_rows text rs)) ≡ pick t (extra_fields (map (row_field text) rs)) (row_field text r ∷ extra_fields (map (row_field text) rs))
      by true e = e
      by false e = ap (λ (fs : List Field). row_field text r ∷ fs) e

  -- the theorem: of a record whose frequencies are inside the exact window or no numbers
  pub mapped_means : (rows : List Row)
      → contact text
      (qso_with text (columns_of text rows) (frequency_of (read_hertz (part text (get_or (columns_of text rows) 6 absent)))) (frequency_of (read_hertz (part text (get_or (columns_of text rows) 7 absent)))))
      (map (row_field text) (extra_rows text rows))
      ≡ contact_of (map (row_field text) rows)
  unfolding contact qso_with columns_of column_names dxcc_at contact_of
  mapped_means rows =
      let v0 : value text (place_named text rows (ascii "CALL")) ≡ value_named (ascii "CALL") (map (row_field text) rows) = named_value (ascii "CALL") (in_capitals_0) rows in
      let v1 : value text (place_named text rows (ascii "QSO_DATE")) ≡ value_named (ascii "QSO_DATE") (map (row_field text) rows) = named_value (ascii "QSO_DATE") (in_capitals_1) rows in
      let v2 : value text (place_named text rows (ascii "TIME_ON")) ≡ value_named (ascii "TIME_ON") (map (row_field text) rows) = named_value (ascii "TIME_ON") (in_capitals_2) rows in
      let v3 : value text (place_named text rows (ascii "BAND")) ≡ value_named (ascii "BAND") (map (row_field text) rows) = named_value (ascii "BAND") (in_capitals_3) rows in
      let v4 : value text (place_named text rows (ascii "MODE")) ≡ value_named (ascii "MODE") (map (row_field text) rows) = named_value (ascii "MODE") (in_capitals_4) rows in
      let v5 : value text (place_named text rows (ascii "SUBMODE")) ≡ value_named (ascii "SUBMODE") (map (row_field text) rows) = named_value (ascii "SUBMODE") (in_capitals_5) rows in
      let v6 : value text (place_named text rows (ascii "FREQ")) ≡ value_named (ascii "FREQ") (map (row_field text) rows) = named_value (ascii "FREQ") (in_capitals_6) rows in
      let v7 : value text (place_named text rows (ascii "FREQ_RX")) ≡ value_named (ascii "FREQ_RX") (map (row_field text) rows) = named_value (ascii "FREQ_RX") (in_capitals_7) rows in
      let v8 : value text (place_named text rows (ascii "BAND_RX")) ≡ value_named (ascii "BAND_RX") (map (row_field text) rows) = named_value (ascii "BAND_RX") (in_capitals_8) rows in
      let v9 : value text (place_named text rows (ascii "RST_SENT")) ≡ value_named (ascii "RST_SENT") (map (row_field text) rows) = named_value (ascii "RST_SENT") (in_capitals_9) rows in
      let v10 : value text (place_named text rows (ascii "RST_RCVD")) ≡ value_named (ascii "RST_RCVD") (map (row_field text) rows) = named_value (ascii "RST_RCVD") (in_capitals_10) rows in
      let v11 : value text (place_named text rows (ascii "GRIDSQUARE")) ≡ value_named (ascii "GRIDSQUARE") (map (row_field text) rows) = named_value (ascii "GRIDSQUARE") (in_capitals_11) rows in
      let v12 : value text (place_named text rows (ascii "DXCC")) ≡ value_named (ascii "DXCC") (map (row_field text) rows) = named_value (ascii "DXCC") (in_capitals_12) rows in
      let f : hertz (frequency_of (read_hertz (part text (place_named text rows (ascii "FREQ"))))) ≡ frequency_read (value text (place_named text rows (ascii "FREQ"))) = frequency_said (ascii "FREQ") rows in
      let g : hertz (frequency_of (read_hertz (part text (place_named text rows (ascii "FREQ_RX"))))) ≡ frequency_read (value text (place_named text rows (ascii "FREQ_RX"))) = frequency_said (ascii "FREQ_RX") rows in
      let d : entity (dxcc_of (signed_of (trimmed (part text (place_named text rows (ascii "DXCC")))))) ≡ dxcc_read (value text (place_named text rows (ascii "DXCC"))) = dxcc_said (ascii "DXCC") rows in
      let x : map (row_field text) (extra_rows text rows) ≡ extra_fields (map (row_field text) rows) = extra_said rows in
      rw (f, g, d, x, v0, v1, v2, v3, v4, v5, v6, v7, v8, v9, v10, v11, v12) refl
