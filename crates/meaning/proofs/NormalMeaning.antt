-- The places that normalising a QSO gives stand for the bytes that it should give. Assumes nothing.
use Rattle.std.specs.Prelude.{Some, None, Option}
use mathlib.Core.Path.{◌≡◌, refl, sym, ap, ◌∙◌}
use mathlib.Core.Bool.{Bool, true, false}
use mathlib.Core.List.{List, [], ◌∷◌}
use Prim.Native.Nat.{ℕ, zero, suc}
use native.Mathlib.Omega.{arith}
use lib.Dec.{eqb, ltb}
use lib.ListN.{length, get_or, take, drop, length-map}
use borrow.Author.Tests.{ne_eqb, eqb-true, ltb-true}
use Rattle.text.specs.Pick.{pick, both, either}
use Rattle.text.specs.Space.{trim_start, trim_end, trimmed}
use Rattle.text.specs.Walk.{lead}
use Rattle.text.proofs.BoolLaws.{both_left, both_right}
use Rattle.letters.specs.Capitals.{raised, capitals}
use Rattle.letters.specs.Same.{same_raised}
use Rattle.letters.proofs.SpaceLaws.{trim_capitals}
use Rattle.trip.proofs.Raised.{word_raised}
use Rattle.tables.specs.Table.{named, entry}
use Rattle.tables.specs.Bands.{bands, band_names, holds, band_for, band_named}
use Rattle.tables.specs.Modes.{mode_names}
use Rattle.tables.specs.Place.{place, absent, part, value, or_empty, bytes, or_else, band_place}
use Rattle.tables.specs.declared.Place.{Place}
use Rattle.tables.proofs.EntryLaws.{entry_in_lem, first_alike}
use Rattle.normalize.specs.Normal.{otherwise, normal, normal_places, modal}
use Rattle.normalize.proofs.Meaning.{mode_means, submode_means, one_text}
use Rattle.columns.proofs.LaidLaws.{found_within}
use Rattle.adif.specs.Grammar.{Field}
use Rattle.model.specs.Contact.{contact, hertz}
use Rattle.model.specs.Normal.{band_name, band_of, canonical, is_blank, normal_band, normal_band_rx, normal_contact, band_at, known_band, blank, normal_band_place, normal_band_rx_place, normal_columns, normal_qso}
use Rattle.model.specs.Flags.{is_yes}
use Rattle.model.specs.Answer.{is_entry, is_fit, are_fit, is_placed, is_flagged, is_qso}
use Rattle.model.specs.declared.Frequency.{Frequency}
use Rattle.model.specs.declared.Dxcc.{Dxcc}
use Rattle.model.specs.declared.Qso.{Qso}
use Rattle.meaning.proofs.BandLaws.{opened, settled_not_blank, settled_canonical, foreign_not_blank, foreign_canonical, band_entry_lem, mode_entry_lem, no_band_lem}

-- ---- the places that stand for texts, one by one
data Fitted : Place → Type 0 where
  gone : (a n : ℕ) → Fitted (place 0 a n)
  here : (a n : ℕ) → Fitted (place 1 a n)
  up : (a n : ℕ) → Fitted (place 2 a n)
  band : (k n : ℕ) (y : List ℕ) → entry band_names k ≡ Some y → Fitted (place 3 k n)
  mode : (k n : ℕ) (y : List ℕ) → entry mode_names k ≡ Some y → Fitted (place 4 k n)

fitted_entry : (k a n : ℕ) → either (both (eqb k 3) (ltb a (length band_names))) (both (eqb k 4) (ltb a (length mode_names))) ≡ true → Fitted (place k a n)
fitted_entry k a n e = by (eqb k 3) refl e
  where
    of_mode : both (eqb k 4) (ltb a (length mode_names)) ≡ true → Fitted (place k a n)
    of_mode q =
        let four : k ≡ 4 = eqb-true _ _ (both_left (eqb k 4) (ltb a (length mode_names)) q) in
        rw four (mode a n (get_or mode_names a []) (entry_in_lem mode_names a (ltb-true _ _ (both_right (eqb k 4) (ltb a (length mode_names)) q))))

    of_band : k ≡ 3 → (t : Bool) → ltb a (length band_names) ≡ t → either t (both (eqb k 4) (ltb a (length mode_names))) ≡ true → Fitted (place k a n)
    of_band three true l q = rw three (band a n (get_or band_names a []) (entry_in_lem band_names a (ltb-true _ _ l)))
    of_band three false l q = of_mode q

    by : (t : Bool) → eqb k 3 ≡ t → either (both t (ltb a (length band_names))) (both (eqb k 4) (ltb a (length mode_names))) ≡ true → Fitted (place k a n)
    by true p q = of_band (eqb-true _ _ p) (ltb a (length band_names)) refl q
    by false p q = of_mode q

fitted_place : (text : List ℕ) (k a n : ℕ) → is_fit text (place k a n) ≡ true → Fitted (place k a n)
unfolding is_fit is_entry
fitted_place text zero a n e = gone a n
fitted_place text (suc zero) a n e = here a n
fitted_place text (suc (suc zero)) a n e = up a n
fitted_place text (suc (suc (suc k))) a n e =
    fitted_entry (suc (suc (suc k))) a n
    (rw (ne_eqb (suc (suc (suc k))) 1 (λ z. omega arith), ne_eqb (suc (suc (suc k))) 2 (λ z. omega arith), ne_eqb (suc (suc (suc k))) 0 (λ z. omega arith)) at e)

fitted : (text : List ℕ) (p : Place) → is_fit text p ≡ true → Fitted p
fitted text p e = fitted_place text p.kind p.start p.len e

-- ---- the case of letters does not tell bands apart
named_capitals : (x : List ℕ) → band_named (capitals x) ≡ band_named x
unfolding band_named named
named_capitals x = rw (trim_capitals x) (first_alike (same_raised (capitals (trimmed x))) (same_raised (trimmed x)) (word_raised (trimmed x)) 0 band_names)

canonical_capitals : (x : List ℕ) → canonical (capitals x) ≡ canonical x
unfolding canonical
canonical_capitals x = ap band_name (named_capitals x)

blank_capitals : (x : List ℕ) → is_blank (capitals x) ≡ is_blank x
unfolding is_blank
blank_capitals x = rw (trim_capitals x, length-map (trimmed x) raised) refl

-- ---- a band that is found has a name
named_found : (x : List ℕ) (k : ℕ) → band_named x ≡ Some k → entry band_names k ≡ Some (get_or band_names k [])
unfolding band_named named band_names bands
named_found x k e = entry_in_lem band_names k (found_within (same_raised (trimmed x)) 0 k band_names e).1

held_found : (hz k : ℕ) → band_for hz ≡ Some k → entry band_names k ≡ Some (get_or band_names k [])
unfolding band_for band_names bands
held_found hz k e = entry_in_lem band_names k (found_within (holds hz) 0 k bands e).1

module _ (text : List ℕ) where
  blank_means : (p : Place) → Fitted p → blank text p ≡ is_blank (bytes text p)
  unfolding blank part value is_blank trimmed trim_start trim_end lead
  blank_means _ (gone a n) = refl
  blank_means _ (here a n) = refl
  blank_means _ (up a n) = sym (blank_capitals (take n (drop a text)))
  blank_means _ (band k n y e) = rw e (sym (settled_not_blank y (band_entry_lem k y e)))
  blank_means _ (mode k n y e) = rw e (sym (foreign_not_blank y (mode_entry_lem k y e)))

  -- the entry that is found, or the place itself
  found_or : (f : Option ℕ) (p : Place) (x : List ℕ) → value text p ≡ Some x → ((k : ℕ) → f ≡ Some k → entry band_names k ≡ Some (get_or band_names k []))
      → value text (or_else (band_place f) p) ≡ Some (otherwise (band_name f) x)
  unfolding value
  found_or (Some k) p x e h = rw (h k refl) refl
  found_or None p x e h = e

  cased_means : (p : Place) → Fitted p → (x : List ℕ) → value text p ≡ Some x → value text (or_else (known_band text p) p) ≡ Some (otherwise (canonical x) x)
  unfolding known_band part value canonical
  cased_means _ (gone a n) x e = absurd (let z : ◌≡◌ {A = ℕ} 0 1 = cc in omega arith)
  cased_means _ (here a n) x e =
      let z : take n (drop a text) ≡ x = cc in
      rw z (found_or (band_named x) (place 1 a n) x e (named_found x))
  cased_means _ (up a n) x e =
      let z : capitals (take n (drop a text)) ≡ x = cc in
      let w : band_named x ≡ band_named (take n (drop a text)) = ap band_named (sym z) ∙ named_capitals (take n (drop a text)) in
      rw (← w) (found_or (band_named x) (place 2 a n) x e (named_found x))
  cased_means _ (band k n y e) x q =
      let z : y ≡ x = cc in
      rw no_band_lem (q ∙ ap Some (sym (kept x (rw z at (settled_canonical y (band_entry_lem k y e))))))
    where
      kept : (x : List ℕ) → canonical x ≡ Some x → otherwise (canonical x) x ≡ x
      kept x c = ap (λ (o : Option (List ℕ)). otherwise o x) c
  cased_means _ (mode k n y e) x q =
      let z : y ≡ x = cc in
      rw no_band_lem (q ∙ ap Some (sym (kept x (rw z at (foreign_canonical y (mode_entry_lem k y e))))))
    where
      kept : (x : List ℕ) → canonical x ≡ None → otherwise (canonical x) x ≡ x
      kept x c = ap (λ (o : Option (List ℕ)). otherwise o x) c

  has_value_lem : (p : Place) → Fitted p → blank text p ≡ false → value text p ≡ Some (bytes text p)
  unfolding blank value
  has_value_lem _ (gone a n) h = absurd (let z : ◌≡◌ {A = ℕ} 0 1 = cc in omega arith)
  has_value_lem _ (here a n) h = refl
  has_value_lem _ (up a n) h = refl
  has_value_lem _ (band k n y e) h = rw e refl
  has_value_lem _ (mode k n y e) h = rw e refl

  found_or_bytes : (f : Option ℕ) (p : Place) → ((k : ℕ) → f ≡ Some k → entry band_names k ≡ Some (get_or band_names k []))
      → bytes text (or_else (band_place f) p) ≡ otherwise (band_name f) (bytes text p)
  unfolding value
  found_or_bytes (Some k) p h = rw (h k refl) refl
  found_or_bytes None p h = refl

  derived_bytes : (p : Place) (f : Frequency) → bytes text (or_else (band_at f) p) ≡ otherwise (band_of (hertz f)) (bytes text p)
  unfolding band_at
  derived_bytes p f = by (is_yes f.given)
    where
      by : (t : Bool) → bytes text (or_else (pick t (band_place (band_for f.hz)) absent) p) ≡ otherwise (band_of (pick t (Some f.hz) None)) (bytes text p)
      by true = found_or_bytes (band_for f.hz) p (held_found f.hz)
      by false = refl

  opened_place : (p : Place) (f : Frequency) (t : Bool) → blank text p ≡ t → normal_band_place text p f ≡ or_else (pick t (band_at f) (known_band text p)) p
  unfolding normal_band_place
  opened_place p f t e = rw e refl

  -- the band
  band_means : (p : Place) (f : Frequency) → Fitted p → bytes text (normal_band_place text p f) ≡ normal_band (bytes text p) (hertz f)
  band_means p f fits = by (blank text p) refl
    where
      by : (t : Bool) → blank text p ≡ t → bytes text (normal_band_place text p f) ≡ normal_band (bytes text p) (hertz f)
      by true e =
          ap (bytes text) (opened_place p f true e) ∙ derived_bytes p f
          ∙ sym (opened (bytes text p) (hertz f) true (sym (blank_means p fits) ∙ e))
      by false e =
          ap (bytes text) (opened_place p f false e) ∙ ap or_empty (cased_means p fits (bytes text p) (has_value_lem p fits e))
          ∙ sym (opened (bytes text p) (hertz f) false (sym (blank_means p fits) ∙ e))

  -- and that of the receiver
  derived_absent : (a n : ℕ) (f : Frequency) → value text (or_else (band_at f) (place 0 a n)) ≡ band_of (hertz f)
  unfolding band_at value
  derived_absent a n f = by (is_yes f.given)
    where
      found : (o : Option ℕ) → value text (or_else (band_place o) (place 0 a n)) ≡ band_name o
      found (Some k) = refl
      found None = refl

      by : (t : Bool) → value text (or_else (pick t (band_place (band_for f.hz)) absent) (place 0 a n)) ≡ band_of (pick t (Some f.hz) None)
      by true = found (band_for f.hz)
      by false = refl

  band_rx_means : (p : Place) (f : Frequency) → Fitted p → value text (normal_band_rx_place text p f) ≡ normal_band_rx (value text p) (hertz f)
  unfolding normal_band_rx_place normal_band_rx value
  band_rx_means _ f (gone a n) = derived_absent a n f
  band_rx_means _ f (here a n) = cased_means (place 1 a n) (here a n) _ refl
  band_rx_means _ f (up a n) = cased_means (place 2 a n) (up a n) _ refl
  band_rx_means _ f (band k n y e) = rw e (cased_means (place 3 k n) (band k n y e) y e)
  band_rx_means _ f (mode k n y e) = rw e (cased_means (place 4 k n) (mode k n y e) y e)

-- the theorem, of a QSO with its thirteen columns: normalised over its text, it says the normalised contact
module _ (text : List ℕ) (c0 c1 c2 c3 c4 c5 c6 c7 c8 c9 c10 c11 c12 : Place) (f g : Frequency) (d : Dxcc) (extra : List Field) where
  abbrev given : Qso
  given = record { columns = c0 ∷ c1 ∷ c2 ∷ c3 ∷ c4 ∷ c5 ∷ c6 ∷ c7 ∷ c8 ∷ c9 ∷ c10 ∷ c11 ∷ c12 ∷ []; freq = f; freq_rx = g; dxcc = d }

  module _ (e : is_qso text given ≡ true) where
    placed : is_placed text given ≡ true
    unfolding is_qso
    placed = both_right (is_flagged given) (is_placed text given) e

    all : are_fit text (c0 ∷ c1 ∷ c2 ∷ c3 ∷ c4 ∷ c5 ∷ c6 ∷ c7 ∷ c8 ∷ c9 ∷ c10 ∷ c11 ∷ c12 ∷ []) ≡ true
    unfolding is_placed
    all = both_left (are_fit text (c0 ∷ c1 ∷ c2 ∷ c3 ∷ c4 ∷ c5 ∷ c6 ∷ c7 ∷ c8 ∷ c9 ∷ c10 ∷ c11 ∷ c12 ∷ [])) (both (modal c4) (modal c5)) placed

    modals : both (modal c4) (modal c5) ≡ true
    unfolding is_placed
    modals = both_right (are_fit text (c0 ∷ c1 ∷ c2 ∷ c3 ∷ c4 ∷ c5 ∷ c6 ∷ c7 ∷ c8 ∷ c9 ∷ c10 ∷ c11 ∷ c12 ∷ [])) (both (modal c4) (modal c5)) placed

    mode_fits : modal c4 ≡ true
    mode_fits = both_left (modal c4) (modal c5) modals

    submode_fits : modal c5 ≡ true
    submode_fits = both_right (modal c4) (modal c5) modals

    band_fits : Fitted c3
    band_fits = fitted text c3 (both_left (is_fit text c3) (are_fit text (c4 ∷ c5 ∷ c6 ∷ c7 ∷ c8 ∷ c9 ∷ c10 ∷ c11 ∷ c12 ∷ [])) (both_right (is_fit text c2) (are_fit text (c3 ∷ c4 ∷ c5 ∷ c6 ∷ c7 ∷ c8 ∷ c9 ∷ c10 ∷ c11 ∷ c12 ∷ [])) (both_right (is_fit text c1) (are_fit text (c2 ∷ c3 ∷ c4 ∷ c5 ∷ c6 ∷ c7 ∷ c8 ∷ c9 ∷ c10 ∷ c11 ∷ c12 ∷ [])) (both_right (is_fit text c0) (are_fit text (c1 ∷ c2 ∷ c3 ∷ c4 ∷ c5 ∷ c6 ∷ c7 ∷ c8 ∷ c9 ∷ c10 ∷ c11 ∷ c12 ∷ [])) (all)))))

    band_rx_fits : Fitted c8
    band_rx_fits = fitted text c8 (both_left (is_fit text c8) (are_fit text (c9 ∷ c10 ∷ c11 ∷ c12 ∷ [])) (both_right (is_fit text c7) (are_fit text (c8 ∷ c9 ∷ c10 ∷ c11 ∷ c12 ∷ [])) (both_right (is_fit text c6) (are_fit text (c7 ∷ c8 ∷ c9 ∷ c10 ∷ c11 ∷ c12 ∷ [])) (both_right (is_fit text c5) (are_fit text (c6 ∷ c7 ∷ c8 ∷ c9 ∷ c10 ∷ c11 ∷ c12 ∷ [])) (both_right (is_fit text c4) (are_fit text (c5 ∷ c6 ∷ c7 ∷ c8 ∷ c9 ∷ c10 ∷ c11 ∷ c12 ∷ [])) (both_right (is_fit text c3) (are_fit text (c4 ∷ c5 ∷ c6 ∷ c7 ∷ c8 ∷ c9 ∷ c10 ∷ c11 ∷ c12 ∷ [])) (both_right (is_fit text c2) (are_fit text (c3 ∷ c4 ∷ c5 ∷ c6 ∷ c7 ∷ c8 ∷ c9 ∷ c10 ∷ c11 ∷ c12 ∷ [])) (both_right (is_fit text c1) (are_fit text (c2 ∷ c3 ∷ c4 ∷ c5 ∷ c6 ∷ c7 ∷ c8 ∷ c9 ∷ c10 ∷ c11 ∷ c12 ∷ [])) (both_right (is_fit text c0) (are_fit text (c1 ∷ c2 ∷ c3 ∷ c4 ∷ c5 ∷ c6 ∷ c7 ∷ c8 ∷ c9 ∷ c10 ∷ c11 ∷ c12 ∷ [])) (all))))))))))

    pub normal_means : contact text (normal_qso text given) extra ≡ normal_contact (contact text given extra)
    unfolding contact normal_qso normal_columns normal_contact
    normal_means =
        let b : bytes text (normal_band_place text c3 f) ≡ normal_band (bytes text c3) (hertz f) = band_means text c3 f band_fits in
        let x : value text (normal_band_rx_place text c8 g) ≡ normal_band_rx (value text c8) (hertz g) = band_rx_means text c8 g band_rx_fits in
        let m : bytes text (normal_places text c4 text c5).mode ≡ (normal (bytes text c4) (value text c5)).mode = mode_means text text c4 c5 mode_fits submode_fits in
        let s : value text (normal_places text c4 text c5).submode ≡ (normal (bytes text c4) (value text c5)).submode =
        rw one_text at (submode_means text text c4 c5 mode_fits submode_fits) in
        cc
