-- The fields of a contact's columns are those of the cells of its QSO. Assumes nothing.
use Rattle.std.specs.Prelude.{Option, None, Some}
use mathlib.Core.Path.{◌≡◌, refl, sym, ap, ◌∙◌}
use mathlib.Core.Bool.{Bool, true, false}
use mathlib.Core.List.{List, [], ◌∷◌, ◌++◌}
use Prim.Native.Nat.{ℕ, zero, suc, ◌≤◌, ◌<◌}
use Prim.Native.String.{String}
use native.Mathlib.Nat.{sub-zero}
use native.Mathlib.Omega.{arith}
use lib.Dec.{eqb, ltb}
use lib.ListN.{length, drop}
use borrow.Author.Tests.{ltb-true, ltb-false, eqb-true, ne_eqb, lt-ltb}
use Rattle.text.specs.Ascii.{ascii}
use Rattle.text.specs.Pick.{pick, both, either}
use Rattle.letters.specs.Capitals.{capitals}
use Rattle.adif.specs.Grammar.{Field}
use Rattle.normalize.specs.Normal.{unless_empty}
use Rattle.tables.specs.Table.{entry}
use Rattle.tables.specs.Bands.{band_names}
use Rattle.tables.specs.Modes.{mode_names}
use Rattle.tables.specs.Place.{part, value, bytes, or_empty}
use Rattle.tables.specs.declared.Place.{Place}
use Rattle.columns.specs.Columns.{call, qso_date, time_on, band, mode, submode, band_rx, rst_sent, rst_rcvd, gridsquare}
use Rattle.model.specs.Flags.{is_yes}
use Rattle.model.specs.Contact.{contact, hertz, signed, entity, place_of}
use Rattle.model.specs.declared.Dxcc.{Dxcc}
use Rattle.model.specs.declared.Frequency.{Frequency}
use Rattle.model.specs.declared.Qso.{Qso}
use Rattle.rowcheck.specs.Check.{Row}
use Rattle.writer.specs.Rows.{rows_from, rows_of}
use Rattle.cells.specs.Cells.{column_order, number_text, cell_text, is_dropped, said, has_value, words_cell, band_cell, split_cell, megahertz_cell, entity_cell, cells_of, cell_fields}
use Rattle.cells.specs.declared.Cell.{Cell}
use Rattle.cells.specs.declared.Cell.TheVariants.{Dropped, Words, Megahertz, Number}
use Rattle.merge.specs.Steps.{fields_between, merged_text}
use Rattle.qsowriter.specs.Record.{given, split_only, megahertz, signed_text, entity_text, column_fields, record_of}
use Rattle.qsowriter.specs.Writing.{contact_with, qso_text}

-- ---- a value that is there
abbrev is_some : Option (List ℕ) → Bool
is_some None = false
is_some (Some x) = true

as_said : (v : Option (List ℕ)) (b : Bool) → is_some v ≡ b → pick b (Some (or_empty v)) None ≡ v
as_said None true e = absurd (let z : ◌≡◌ {A = ℕ} 0 1 = cc in omega arith)
as_said None false e = refl
as_said (Some x) true e = refl
as_said (Some x) false e = absurd (let z : ◌≡◌ {A = ℕ} 0 1 = cc in omega arith)

entry_there : (names : List (List ℕ)) (k : ℕ) → k < length names → is_some (entry names k) ≡ true
entry_there [] k h = absurd (omega arith)
entry_there (n ∷ ns) zero h = refl
entry_there (n ∷ ns) (suc k) h = entry_there ns k (omega arith)

entry_not : (names : List (List ℕ)) (k : ℕ) → length names ≤ k → is_some (entry names k) ≡ false
entry_not [] k h = refl
entry_not (n ∷ ns) zero h = absurd (omega arith)
entry_not (n ∷ ns) (suc k) h = entry_not ns k (omega arith)

entry_some : (names : List (List ℕ)) (k : ℕ) → is_some (entry names k) ≡ ltb k (length names)
entry_some names k = by (ltb k (length names)) refl
  where
    by : (b : Bool) → ltb k (length names) ≡ b → is_some (entry names k) ≡ b
    by true e = entry_there names k (ltb-true k (length names) e)
    by false e = entry_not names k (ltb-false k (length names) e)

-- no kind is two
kinds : (k : ℕ) → eqb k 3 ≡ true → eqb k 4 ≡ false
kinds k e = ne_eqb k 4 (λ (f : k ≡ 4). omega (arith, eqb-true k 3 e))

some_by : (a b c d x y : Bool) (s u : List ℕ) (v w : Option (List ℕ)) → (c ≡ true → d ≡ false) → is_some v ≡ x → is_some w ≡ y
    → is_some (pick a (Some s) (pick b (Some u) (pick c v (pick d w None)))) ≡ either (either a b) (either (both c x) (both d y))
some_by true b c d x y s u v w n ex ey = refl
some_by false true c d x y s u v w n ex ey = refl
some_by false false true d x y s u v w n ex ey = ex ∙ rw (n refl) (by x)
  where
    by : (t : Bool) → t ≡ either t false
    by true = refl
    by false = refl
some_by false false false true x y s u v w n ex ey = ey
some_by false false false false x y s u v w n ex ey = refl

-- ---- what each cell says
module _ (text : List ℕ) where
  has_value_lem : (p : Place) → is_some (value text p) ≡ has_value p
  unfolding value has_value
  has_value_lem p =
      some_by (eqb p.kind 1) (eqb p.kind 2) (eqb p.kind 3) (eqb p.kind 4) (ltb p.start (length band_names)) (ltb p.start (length mode_names)) (part text p)
      (capitals (part text p)) (entry band_names p.start) (entry mode_names p.start) (kinds p.kind) (entry_some band_names p.start) (entry_some mode_names p.start)

  words_said : (p : Place) → said text (words_cell p) ≡ value text p
  unfolding words_cell
  words_said p = by (has_value p) ∙ as_said (value text p) (has_value p) (has_value_lem p)
    where
      by : (b : Bool) → said text (pick b (Words p) Dropped) ≡ pick b (Some (or_empty (value text p))) None
      by true = refl
      by false = refl

  band_said : (p : Place) → said text (band_cell text p) ≡ unless_empty (bytes text p)
  unfolding band_cell
  band_said p = by (bytes text p) refl
    where
      by : (x : List ℕ) → bytes text p ≡ x → said text (pick (eqb (length x) 0) Dropped (Words p)) ≡ unless_empty x
      by [] e = refl
      by (y ∷ ys) e = rw (ne_eqb (suc (length ys)) 0 (λ (z : suc (length ys) ≡ 0). omega arith)) (ap Some e)

  split_said : (p : Place) (f : Frequency) → said text (split_cell p f) ≡ split_only (hertz f) (value text p)
  unfolding split_cell
  split_said p f = by (is_yes f.given)
    where
      by : (b : Bool) → said text (pick b (words_cell p) Dropped) ≡ split_only (pick b (Some f.hz) None) (value text p)
      by true = words_said p
      by false = refl

  megahertz_said : (f : Frequency) → said text (megahertz_cell f) ≡ megahertz (hertz f)
  unfolding megahertz_cell
  megahertz_said f = by (is_yes f.given)
    where
      by : (b : Bool) → said text (pick b (Megahertz f.hz) Dropped) ≡ megahertz (pick b (Some f.hz) None)
      by true = refl
      by false = refl

  number_said : (negative : Bool) (n : ℕ) → number_text negative n ≡ signed_text (signed negative n)
  number_said false n = refl
  number_said true zero = refl
  number_said true (suc n) = rw (lt-ltb 0 (suc n) (omega arith)) refl

  entity_said : (d : Dxcc) → said text (entity_cell d) ≡ entity_text (entity d)
  unfolding entity_cell
  entity_said d = by (is_yes d.given)
    where
      by : (b : Bool) → said text (pick b (Number (is_yes d.negative) d.size) Dropped) ≡ entity_text (pick b (Some (signed (is_yes d.negative) d.size)) None)
      by true = ap Some (number_said (is_yes d.negative) d.size)
      by false = refl

  -- ---- one column more
  column : (name : String) (v : Option (List ℕ)) (c : Cell) (ns : List (List ℕ)) (cs : List Cell) (rest : List Field) → said text c ≡ v → cell_fields text ns cs ≡ rest
      → cell_fields text (ascii name ∷ ns) (c ∷ cs) ≡ given name v ++ rest
  column name v c ns cs rest e f = by (is_dropped c) refl v e
    where
      by : (b : Bool) → is_dropped c ≡ b → (w : Option (List ℕ)) → pick b None (Some (cell_text text c)) ≡ w
          → pick b (cell_fields text ns cs) (record { name = ascii name; value = cell_text text c } ∷ cell_fields text ns cs) ≡ given name w ++ rest
      by true d None g = f
      by true d (Some x) g = absurd (let z : ◌≡◌ {A = ℕ} 0 1 = cc in omega arith)
      by false d None g = absurd (let z : ◌≡◌ {A = ℕ} 0 1 = cc in omega arith)
      by false d (Some x) g =
          let h : cell_text text c ≡ x = cc in
          rw (h, f) refl

  pub columns_are : (q : Qso) (extra : List Row) → column_fields (contact_with text q extra) ≡ cell_fields text column_order (cells_of text q)
  unfolding column_fields contact_with contact column_order cells_of
  columns_are q extra =
      sym
      (column "BAND" _ (band_cell text (place_of q band)) (drop 1 column_order) (drop 1 (cells_of text q)) _ (band_said (place_of q band))
      (column "BAND_RX" _ (split_cell (place_of q band_rx) q.freq_rx) (drop 2 column_order) (drop 2 (cells_of text q)) _ (split_said (place_of q band_rx) q.freq_rx)
      (column "CALL" _ (Words (place_of q call)) (drop 3 column_order) (drop 3 (cells_of text q)) _ refl
      (column "DXCC" _ (entity_cell q.dxcc) (drop 4 column_order) (drop 4 (cells_of text q)) _ (entity_said q.dxcc)
      (column "FREQ" _ (megahertz_cell q.freq) (drop 5 column_order) (drop 5 (cells_of text q)) _ (megahertz_said q.freq)
      (column "FREQ_RX" _ (megahertz_cell q.freq_rx) (drop 6 column_order) (drop 6 (cells_of text q)) _ (megahertz_said q.freq_rx)
      (column "GRIDSQUARE" _ (words_cell (place_of q gridsquare)) (drop 7 column_order) (drop 7 (cells_of text q)) _ (words_said (place_of q gridsquare))
      (column "MODE" _ (Words (place_of q mode)) (drop 8 column_order) (drop 8 (cells_of text q)) _ refl
      (column "QSO_DATE" _ (Words (place_of q qso_date)) (drop 9 column_order) (drop 9 (cells_of text q)) _ refl
      (column "RST_RCVD" _ (words_cell (place_of q rst_rcvd)) (drop 10 column_order) (drop 10 (cells_of text q)) _ (words_said (place_of q rst_rcvd))
      (column "RST_SENT" _ (words_cell (place_of q rst_sent)) (drop 11 column_order) (drop 11 (cells_of text q)) _ (words_said (place_of q rst_sent))
      (column "SUBMODE" _ (words_cell (place_of q submode)) (drop 12 column_order) (drop 12 (cells_of text q)) _ (words_said (place_of q submode))
      (column "TIME_ON" _ (Words (place_of q time_on)) [] [] [] refl refl)))))))))))))

  pub text_is : (q : Qso) (t : List ℕ) (count : ℕ) → merged_text text (cells_of text q) t count ≡ qso_text text q (rows_of t count)
  unfolding merged_text qso_text record_of fields_between rows_of contact_with contact
  text_is q t count = rw (columns_are q (rows_from t 0 count), sub-zero count) refl
