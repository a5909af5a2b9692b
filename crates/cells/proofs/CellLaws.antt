-- What the cells of a QSO are. Assumes nothing.
use Rattle.std.specs.Prelude.{Option, None, Some}
use mathlib.Core.Path.{◌≡◌, refl, sym, ap, ◌∙◌}
use mathlib.Core.Bool.{Bool, true, false}
use mathlib.Core.List.{List, [], ◌∷◌}
use Prim.Native.Nat.{ℕ}
use native.Mathlib.Omega.{arith}
use lib.Dec.{eqb, ltb}
use lib.ListN.{length, length-map}
use borrow.Author.Tests.{eq-eqb, ne_eqb}
use Rattle.text.specs.Pick.{pick, both, either}
use Rattle.letters.specs.Capitals.{raised, capitals}
use Rattle.tables.specs.Table.{entry}
use Rattle.tables.specs.Bands.{bands, band_names}
use Rattle.tables.specs.Modes.{modes, mode_names}
use Rattle.tables.specs.Place.{in_text, part, value, bytes, or_empty, spelled, no_name, name_of}
use Rattle.tables.specs.declared.Name.{Name}
use Rattle.tables.specs.declared.Place.{Place}
use Rattle.columns.specs.Columns.{call, qso_date, time_on, band, mode, submode, band_rx, rst_sent, rst_rcvd, gridsquare}
use Rattle.model.specs.Flags.{is_yes}
use Rattle.model.specs.Contact.{place_of}
use Rattle.model.specs.declared.Dxcc.{Dxcc}
use Rattle.model.specs.declared.Frequency.{Frequency}
use Rattle.model.specs.declared.Qso.{Qso}
use Rattle.cells.specs.Cells.{has_value, words_cell, band_cell, split_cell, megahertz_cell, entity_cell, cells_of}
use Rattle.cells.specs.declared.Cell.{Cell}
use Rattle.cells.specs.declared.Cell.TheVariants.{Dropped, Words, Megahertz, Number}

-- ---- how many bytes a place stands for
in_text_size : (a b c d : Bool) (s : List ℕ) (x y : Option (List ℕ)) → either a b ≡ true
    → length s ≡ length (or_empty (pick a (Some s) (pick b (Some (capitals s)) (pick c x (pick d y None)))))
in_text_size true b c d s x y e = refl
in_text_size false true c d s x y e = sym (length-map s raised)
in_text_size false false c d s x y e = absurd (let z : ◌≡◌ {A = ℕ} 0 1 = cc in omega arith)

entry_size : (a b c d : Bool) (s u : List ℕ) (x y : Option (List ℕ)) → either a b ≡ false
    → (pick c (spelled (or_empty x)) (pick d (spelled (or_empty y)) no_name)).len ≡ length (or_empty (pick a (Some s) (pick b (Some u) (pick c x (pick d y None)))))
entry_size true b c d s u x y e = absurd (let z : ◌≡◌ {A = ℕ} 0 1 = cc in omega arith)
entry_size false true c d s u x y e = absurd (let z : ◌≡◌ {A = ℕ} 0 1 = cc in omega arith)
entry_size false false true d s u x y e = refl
entry_size false false false true s u x y e = refl
entry_size false false false false s u x y e = refl

module _ (text : List ℕ) (p : Place) (t : Bool) (e : t ≡ in_text p) where
  pub size_in_lem : (s : List ℕ) → s ≡ part text p → t ≡ true → length s ≡ length (bytes text p)
  unfolding value
  size_in_lem s es h =
      ap length es ∙ in_text_size (eqb p.kind 1) (eqb p.kind 2) (eqb p.kind 3) (eqb p.kind 4) (part text p) (entry band_names p.start) (entry mode_names p.start) (sym e ∙ h)

  pub size_out : (n : Name) → n ≡ name_of p → t ≡ false → n.len ≡ length (bytes text p)
  unfolding value name_of
  size_out n en h =
      ap (λ (m : Name). m.len) en
      ∙ entry_size (eqb p.kind 1) (eqb p.kind 2) (eqb p.kind 3) (eqb p.kind 4) (part text p) (capitals (part text p)) (entry band_names p.start) (entry mode_names p.start) (sym e ∙ h)

-- ---- a test of a place
pub has_value_lem : (p : Place) (b m a t r : Bool) → b ≡ both (eqb p.kind 3) (ltb p.start 19) → m ≡ both (eqb p.kind 4) (ltb p.start 31)
    → a ≡ in_text p → t ≡ either b m → r ≡ either a t → r ≡ has_value p
unfolding has_value band_names bands mode_names modes
has_value_lem p b m a t r eb em ea et er = rw (er, ea, et, eb, em) refl

-- ---- the cells
module _ (p : Place) (t : Bool) (e : t ≡ has_value p) where
  pub words_are : t ≡ true → Words p ≡ words_cell p
  unfolding words_cell
  words_are h = rw (← e, h) refl

  pub words_not : t ≡ false → Dropped ≡ words_cell p
  unfolding words_cell
  words_not h = rw (← e, h) refl

module _ (text : List ℕ) (p : Place) (n : ℕ) (e : n ≡ length (bytes text p)) where
  pub band_not : n ≡ 0 → Dropped ≡ band_cell text p
  unfolding band_cell
  band_not h = rw (← e, eq-eqb n 0 h) refl

  pub band_is : (n ≡ 0 → ⊥) → Words p ≡ band_cell text p
  unfolding band_cell
  band_is h = rw (← e, ne_eqb n 0 h) refl

module _ (p : Place) (f : Frequency) where
  pub split_is : (r : Cell) → r ≡ words_cell p → f.given ≡ 1 → r ≡ split_cell p f
  unfolding split_cell
  split_is r e h = rw (eq-eqb f.given 1 h) e

  pub split_not : (f.given ≡ 1 → ⊥) → Dropped ≡ split_cell p f
  unfolding split_cell
  split_not h = rw (ne_eqb f.given 1 h) refl

module _ (f : Frequency) where
  pub megahertz_is : f.given ≡ 1 → Megahertz f.hz ≡ megahertz_cell f
  unfolding megahertz_cell
  megahertz_is h = rw (eq-eqb f.given 1 h) refl

  pub megahertz_not : (f.given ≡ 1 → ⊥) → Dropped ≡ megahertz_cell f
  unfolding megahertz_cell
  megahertz_not h = rw (ne_eqb f.given 1 h) refl

module _ (d : Dxcc) where
  pub entity_is : d.given ≡ 1 → Number (is_yes d.negative) d.size ≡ entity_cell d
  unfolding entity_cell
  entity_is h = rw (eq-eqb d.given 1 h) refl

  pub entity_not : (d.given ≡ 1 → ⊥) → Dropped ≡ entity_cell d
  unfolding entity_cell
  entity_not h = rw (ne_eqb d.given 1 h) refl

pub cells_are : (text : List ℕ) (q : Qso) (a b d f g h i j k : Cell) → a ≡ band_cell text (place_of q band) → b ≡ split_cell (place_of q band_rx) q.freq_rx
    → d ≡ entity_cell q.dxcc → f ≡ megahertz_cell q.freq → g ≡ megahertz_cell q.freq_rx → h ≡ words_cell (place_of q gridsquare)
    → i ≡ words_cell (place_of q rst_rcvd) → j ≡ words_cell (place_of q rst_sent) → k ≡ words_cell (place_of q submode)
    → ◌≡◌ {A = List Cell}
    (a ∷ b ∷ Words (place_of q call) ∷ d ∷ f ∷ g ∷ h ∷ Words (place_of q mode) ∷ Words (place_of q qso_date) ∷ i ∷ j ∷ k ∷ Words (place_of q time_on) ∷ [])
    (cells_of text q)
unfolding cells_of
cells_are text q a b d f g h i j k ea eb ed ef eg eh ei ej ek = rw (ea, eb, ed, ef, eg, eh, ei, ej, ek) refl
