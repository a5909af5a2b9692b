-- A QSO of a text is still one when it is normalised; and normalised again it is the same QSO, place by place. Assumes nothing.
use Rattle.std.specs.Prelude.{Option, Some, None}
use mathlib.Core.Path.{◌≡◌, refl, sym, ap, ◌∙◌}
use mathlib.Core.Bool.{Bool, true, false}
use mathlib.Core.List.{List, [], ◌∷◌}
use Prim.Native.Nat.{ℕ, zero, suc, ◌+◌, ◌≤◌, ◌<◌}
use native.Mathlib.Omega.{arith}
use lib.Dec.{leb, ltb}
use lib.ListN.{length, get_or, set, take, drop, length-take, length-drop}
use borrow.Author.Tests.{ne_eqb, eqb-true, eq-eqb, leb-true, le-leb, lt-ltb}
use Rattle.text.specs.Pick.{pick, both}
use Rattle.text.specs.Utf8.{utf8}
use Rattle.text.specs.Space.{trim_start, trim_end, trimmed}
use Rattle.text.proofs.BoolLaws.{both_true, both_left, both_right}
use Rattle.text.proofs.SpaceLaws.{start_le}
use Rattle.letters.specs.Same.{same_raised}
use Rattle.tables.specs.Table.{named}
use Rattle.tables.specs.Bands.{bands, band_names, holds, band_for, band_named}
use Rattle.tables.specs.Modes.{modes, mode_names}
use Rattle.tables.specs.Place.{place, absent, in_text, in_capitals, band_entry, mode_entry, part, band_place, tidy, is_absent, is_empty, or_else}
use Rattle.tables.specs.declared.Place.{Place}
use Rattle.tables.proofs.Tested.{all}
use Rattle.normalize.specs.Modes.{submodes, aliases}
use Rattle.normalize.specs.Normal.{mode_numbers, entry_at, names, parent_entry, alias_entry, aliased_place, split_place, normal_places, modal}
use Rattle.normalize.specs.declared.ModePair.{ModePair}
use Rattle.normalize.proofs.TrimLaws.{trim_twice, trimmed_start}
use Rattle.normalize.proofs.Meaning.{sub_part, no_submode, no_alias}
use Rattle.columns.specs.Columns.{mode, submode, band, band_rx}
use Rattle.columns.proofs.LaidLaws.{found_within}
use Rattle.trip.proofs.Trimmed.{trimmed_utf8}
use Rattle.refusals.specs.declared.Refusal.TheVariants.{TooLong, BadRow}
use Rattle.model.specs.Contact.{place_of}
use Rattle.model.specs.Normal.{band_at, known_band, blank, normal_band_place, normal_band_rx_place, normal_columns, normal_qso}
use Rattle.model.specs.Flags.{is_yes}
use Rattle.model.specs.Answer.{is_part, is_entry, is_fit, are_fit, is_placed, is_flagged, is_qso, accepted, refused, normalized_to}
use Rattle.model.specs.declared.Qso.{Qso}
use Rattle.model.specs.declared.Frequency.{Frequency}
use Rattle.model.specs.declared.Dxcc.{Dxcc}
use Rattle.model.specs.declared.Answer.{Answer}
use Rattle.meaning.proofs.BandLaws.{no_band_lem}

-- ---- a place in the text, trimmed
trim_short : (xs : List ℕ) → trim_start xs + length (trimmed xs) ≤ length xs
unfolding trimmed
trim_short xs =
    omega
    (arith, start_le xs, length-take (trim_end (drop (trim_start xs) xs)) (drop (trim_start xs) xs), length-drop (trim_start xs) xs)

trimmed_whole : (xs : List ℕ) → utf8 xs ≡ true → utf8 (trimmed xs) ≡ true
unfolding utf8
trimmed_whole xs u = eq-eqb _ _ (trimmed_utf8 xs (eqb-true _ _ u))

module _ (text : List ℕ) where
  abbrev span : Place → List ℕ
  span p = take p.len (drop p.start text)

  module _ (p : Place) (i : in_text p ≡ true) where
    part_in : part text p ≡ span p
    unfolding part
    part_in = rw i refl

    fit_in : is_fit text p ≡ is_part text p
    unfolding is_fit
    fit_in = rw i refl

    tidy_in : tidy text p ≡ in_capitals (p.start + trim_start (span p)) (length (trimmed (span p)))
    unfolding tidy
    tidy_in = rw (i, part_in) refl

    tidy_part : part text (in_capitals (p.start + trim_start (span p)) (length (trimmed (span p)))) ≡ trimmed (span p)
    unfolding part trimmed
    tidy_part = sub_part text p.start p.len (trim_start (span p)) (trim_end (drop (trim_start (span p)) (span p)))

    tidy_in_again : tidy text (in_capitals (p.start + trim_start (span p)) (length (trimmed (span p))))
        ≡ in_capitals (p.start + trim_start (span p)) (length (trimmed (span p)))
    unfolding tidy
    tidy_in_again =
        let z : p.start + trim_start (span p) + 0 ≡ p.start + trim_start (span p) = omega arith in
        rw (tidy_part, trimmed_start (span p), trim_twice (span p), z) refl

    tidy_in_fit : is_part text p ≡ true → is_part text (in_capitals (p.start + trim_start (span p)) (length (trimmed (span p)))) ≡ true
    unfolding is_part
    tidy_in_fit e =
        let l : p.start + p.len ≤ length text = leb-true _ _ (both_left (leb (p.start + p.len) (length text)) (utf8 (part text p)) e) in
        let u : utf8 (span p) ≡ true = rw part_in at (both_right (leb (p.start + p.len) (length text)) (utf8 (part text p)) e) in
        both_true (leb (p.start + trim_start (span p) + length (trimmed (span p))) (length text)) (utf8 (part text (in_capitals (p.start + trim_start (span p)) (length (trimmed (span p))))))
        (le-leb (p.start + trim_start (span p) + length (trimmed (span p))) (length text) (omega (arith, trim_short (span p), length-take p.len (drop p.start text)))) (rw tidy_part (trimmed_whole (span p) u))

  tidy_out : (p : Place) → in_text p ≡ false → tidy text p ≡ p
  unfolding tidy
  tidy_out p o = rw o refl

  pub tidy_twice : (p : Place) → tidy text (tidy text p) ≡ tidy text p
  tidy_twice p = by (in_text p) refl
    where
      by : (t : Bool) → in_text p ≡ t → tidy text (tidy text p) ≡ tidy text p
      by true e = rw (tidy_in p e) (tidy_in_again p e)
      by false e = ap (tidy text) (tidy_out p e)

  -- ---- places that fit and may stand for a mode
  abbrev Sound : Place → Type 0
  Sound p = (is_fit text p ≡ true) × (modal p ≡ true)

  raised_sound : (a n : ℕ) → is_part text (in_capitals a n) ≡ true → Sound (in_capitals a n)
  unfolding is_fit modal
  raised_sound a n f = (f, refl)

  tidy_sound : (p : Place) → Sound p → Sound (tidy text p)
  tidy_sound p s = by (in_text p) refl
    where
      by : (t : Bool) → in_text p ≡ t → Sound (tidy text p)
      by true e =
          rw (tidy_in p e)
          (raised_sound (p.start + trim_start (span p)) (length (trimmed (span p))) (tidy_in_fit p e (rw (fit_in p e) at s.0)))
      by false e = rw (tidy_out p e) s

  absent_sound : Sound absent
  unfolding is_fit is_entry modal
  absent_sound = (refl, refl)

  entry_sound : (k : ℕ) → ltb k (length mode_names) ≡ true → Sound (mode_entry k)
  unfolding is_fit is_entry modal
  entry_sound k h = (h, h)

  or_sound : (p q : Place) → Sound p → Sound q → Sound (or_else p q)
  or_sound p q a b = by (is_absent p)
    where
      by : (t : Bool) → Sound (pick t q p)
      by true = b
      by false = a

  got : (test : ℕ → Bool) (ns : List ℕ) → all test ns ≡ true → test 0 ≡ true → (k : ℕ) → test (get_or ns k 0) ≡ true
  got test [] a z k = z
  got test (n ∷ ns) a z zero = both_left (test n) (all test ns) a
  got test (n ∷ ns) a z (suc k) = got test ns (both_right (test n) (all test ns) a) z k

  abbrev listed : ℕ → Bool
  listed k = ltb k (length mode_names)

  first_listed : listed 0 ≡ true
  unfolding mode_names modes
  first_listed = refl

  parents_listed : all listed (mode_numbers submodes) ≡ true
  unfolding submodes mode_names modes
  parents_listed = refl

  aliases_listed : all listed (mode_numbers aliases) ≡ true
  unfolding aliases mode_names modes
  aliases_listed = refl

  at_sound : (ns : List ℕ) → all listed ns ≡ true → (f : Option ℕ) → Sound (entry_at ns f)
  at_sound ns a (Some k) = entry_sound (get_or ns k 0) (got listed ns a first_listed k)
  at_sound ns a None = absent_sound

  parent_sound : (x : List ℕ) → Sound (parent_entry x)
  unfolding parent_entry
  parent_sound x = at_sound (mode_numbers submodes) parents_listed (named x (names submodes))

  alias_sound : (p : Place) → Sound p → Sound (aliased_place text p)
  unfolding aliased_place alias_entry
  alias_sound p s = or_sound (alias_entry (part text p)) p (at_sound (mode_numbers aliases) aliases_listed (named (part text p) (names aliases))) s

  abbrev BothSound : ModePair → Type 0
  BothSound r = Sound r.mode × Sound r.submode

  pick_sound : (t : Bool) (a b : ModePair) → BothSound a → BothSound b → BothSound (pick t a b)
  pick_sound true a b x y = x
  pick_sound false a b x y = y

  pair_sound : (m s : Place) → Sound m → Sound s → BothSound (normal_places text m text s)
  unfolding normal_places split_place
  pair_sound m s hm hs =
      let a : Sound (aliased_place text (tidy text m)) = alias_sound (tidy text m) (tidy_sound m hm) in
      pick_sound (is_empty (tidy text s)) (split_place text (tidy text m)) _
      (pick_sound (is_absent (parent_entry (part text (tidy text m)))) _ _ (a, absent_sound) (parent_sound (part text (tidy text m)), tidy_sound m hm))
      (or_sound (parent_entry (part text (tidy text s))) (aliased_place text (tidy text m)) (parent_sound (part text (tidy text s))) a, tidy_sound s hs)

  -- ---- bands
  band_fit : (k : ℕ) → k < length band_names → is_fit text (band_entry k) ≡ true
  unfolding is_fit is_entry
  band_fit k h = rw (lt-ltb k (length band_names) h) refl

  no_place_fit : is_fit text absent ≡ true
  no_place_fit = absent_sound.0

  held_in : (hz k : ℕ) → band_for hz ≡ Some k → k < length band_names
  unfolding band_for band_names bands
  held_in hz k e = (found_within (holds hz) 0 k bands e).1

  named_in : (x : List ℕ) (k : ℕ) → band_named x ≡ Some k → k < length band_names
  unfolding band_named named band_names bands
  named_in x k e = (found_within (same_raised (trimmed x)) 0 k band_names e).1

  held_fit : (hz : ℕ) (f : Option ℕ) → band_for hz ≡ f → is_fit text (band_place f) ≡ true
  held_fit hz (Some k) e = band_fit k (held_in hz k e)
  held_fit hz None e = no_place_fit

  known_fit : (x : List ℕ) (f : Option ℕ) → band_named x ≡ f → is_fit text (band_place f) ≡ true
  known_fit x (Some k) e = band_fit k (named_in x k e)
  known_fit x None e = no_place_fit

  pick_fit : (t : Bool) (p q : Place) → is_fit text p ≡ true → is_fit text q ≡ true → is_fit text (pick t p q) ≡ true
  pick_fit true p q a b = a
  pick_fit false p q a b = b

  at_fit : (f : Frequency) → is_fit text (band_at f) ≡ true
  unfolding band_at
  at_fit f = pick_fit (is_yes f.given) (band_place (band_for f.hz)) absent (held_fit f.hz (band_for f.hz) refl) no_place_fit

  named_fit : (p : Place) → is_fit text (known_band text p) ≡ true
  unfolding known_band
  named_fit p = known_fit (part text p) (band_named (part text p)) refl

  normal_band_fit : (p : Place) (f : Frequency) → is_fit text p ≡ true → is_fit text (normal_band_place text p f) ≡ true
  unfolding normal_band_place
  normal_band_fit p f e =
      let x : Place = pick (blank text p) (band_at f) (known_band text p) in
      pick_fit (is_absent x) p x e (pick_fit (blank text p) (band_at f) (known_band text p) (at_fit f) (named_fit p))

  normal_rx_fit : (p : Place) (f : Frequency) → is_fit text p ≡ true → is_fit text (normal_band_rx_place text p f) ≡ true
  unfolding normal_band_rx_place
  normal_rx_fit p f e =
      let x : Place = pick (is_absent p) (band_at f) (known_band text p) in
      pick_fit (is_absent x) p x e (pick_fit (is_absent p) (band_at f) (known_band text p) (at_fit f) (named_fit p))

  -- ---- the columns
  pub fit_at : (ps : List Place) → are_fit text ps ≡ true → (k : ℕ) → is_fit text (get_or ps k absent) ≡ true
  fit_at [] e k = no_place_fit
  fit_at (p ∷ ps) e zero = both_left (is_fit text p) (are_fit text ps) e
  fit_at (p ∷ ps) e (suc k) = fit_at ps (both_right (is_fit text p) (are_fit text ps) e) k

  fit_set : (ps : List Place) (k : ℕ) (p : Place) → are_fit text ps ≡ true → is_fit text p ≡ true → are_fit text (set ps k p) ≡ true
  fit_set [] k p e h = refl
  fit_set (q ∷ ps) zero p e h = both_true (is_fit text p) (are_fit text ps) h (both_right (is_fit text q) (are_fit text ps) e)
  fit_set (q ∷ ps) (suc k) p e h =
      both_true (is_fit text q) (are_fit text (set ps k p)) (both_left (is_fit text q) (are_fit text ps) e) (fit_set ps k p (both_right (is_fit text q) (are_fit text ps) e) h)

-- a column that is set: there, where there is one; and no other
set_here : (test : Place → Bool) (ps : List Place) (k : ℕ) (p : Place) → test p ≡ true → test (get_or ps k absent) ≡ true → test (get_or (set ps k p) k absent) ≡ true
set_here test [] k p a b = b
set_here test (q ∷ ps) zero p a b = a
set_here test (q ∷ ps) (suc k) p a b = set_here test ps k p a b

set_elsewhere : (ps : List Place) (j k : ℕ) (p : Place) → (j ≡ k → ⊥) → get_or (set ps k p) j absent ≡ get_or ps j absent
set_elsewhere [] j k p n = refl
set_elsewhere (q ∷ ps) zero zero p n = absurd (n refl)
set_elsewhere (q ∷ ps) zero (suc k) p n = refl
set_elsewhere (q ∷ ps) (suc j) zero p n = refl
set_elsewhere (q ∷ ps) (suc j) (suc k) p n = set_elsewhere ps j k p (λ e. n (ap suc e))

-- the theorem: a QSO of the text is still one
module _ (text : List ℕ) (q : Qso) (e : is_qso text q ≡ true) where
  flags : is_flagged q ≡ true
  unfolding is_qso
  flags = both_left (is_flagged q) (is_placed text q) e

  placed : is_placed text q ≡ true
  unfolding is_qso
  placed = both_right (is_flagged q) (is_placed text q) e

  fits : are_fit text q.columns ≡ true
  unfolding is_placed
  fits = both_left (are_fit text q.columns) (both (modal (place_of q mode)) (modal (place_of q submode))) placed

  modals : both (modal (place_of q mode)) (modal (place_of q submode)) ≡ true
  unfolding is_placed
  modals = both_right (are_fit text q.columns) (both (modal (place_of q mode)) (modal (place_of q submode))) placed

  abbrev pair : ModePair
  pair = normal_places text (place_of q mode) text (place_of q submode)

  both_sound : BothSound text pair
  both_sound =
      pair_sound text (place_of q mode) (place_of q submode)
      (fit_at text q.columns fits mode, both_left (modal (place_of q mode)) (modal (place_of q submode)) modals)
      (fit_at text q.columns fits submode, both_right (modal (place_of q mode)) (modal (place_of q submode)) modals)

  abbrev with_mode : List Place
  with_mode = set q.columns mode pair.mode

  abbrev with_submode : List Place
  with_submode = set with_mode submode pair.submode

  abbrev with_band : List Place
  with_band = set with_submode band (normal_band_place text (place_of q band) q.freq)

  abbrev with_band_rx : List Place
  with_band_rx = set with_band band_rx (normal_band_rx_place text (place_of q band_rx) q.freq_rx)

  all_fit : are_fit text with_band_rx ≡ true
  all_fit =
      fit_set text with_band band_rx _
      (fit_set text with_submode band _
      (fit_set text with_mode submode _ (fit_set text q.columns mode _ fits both_sound.0.0) both_sound.1.0)
      (normal_band_fit text (place_of q band) q.freq (fit_at text q.columns fits band)))
      (normal_rx_fit text (place_of q band_rx) q.freq_rx (fit_at text q.columns fits band_rx))

  mode_kept : modal (get_or with_band_rx mode absent) ≡ true
  mode_kept =
      rw (set_elsewhere with_band mode band_rx (normal_band_rx_place text (place_of q band_rx) q.freq_rx) (λ z. omega arith), set_elsewhere with_submode mode band (normal_band_place text (place_of q band) q.freq) (λ z. omega arith), set_elsewhere with_mode mode submode pair.submode (λ z. omega arith))
      (set_here modal q.columns mode pair.mode both_sound.0.1 (both_left (modal (place_of q mode)) (modal (place_of q submode)) modals))

  submode_kept : modal (get_or with_band_rx submode absent) ≡ true
  submode_kept =
      rw (set_elsewhere with_band submode band_rx (normal_band_rx_place text (place_of q band_rx) q.freq_rx) (λ z. omega arith), set_elsewhere with_submode submode band (normal_band_place text (place_of q band) q.freq) (λ z. omega arith))
      (set_here modal with_mode submode pair.submode both_sound.1.1
      (rw (set_elsewhere q.columns submode mode pair.mode (λ z. omega arith)) (both_right (modal (place_of q mode)) (modal (place_of q submode)) modals)))

  -- normalising touches no flag
  flags_kept : is_flagged (normal_qso text q) ≡ true
  unfolding is_flagged normal_qso
  flags_kept = flags

  places_kept : is_placed text (normal_qso text q) ≡ true
  unfolding is_placed normal_qso normal_columns
  places_kept =
      both_true (are_fit text with_band_rx) (both (modal (get_or with_band_rx mode absent)) (modal (get_or with_band_rx submode absent))) all_fit
      (both_true (modal (get_or with_band_rx mode absent)) (modal (get_or with_band_rx submode absent)) mode_kept submode_kept)

  pub normal_kept : is_qso text (normal_qso text q) ≡ true
  unfolding is_qso
  normal_kept = both_true (is_flagged (normal_qso text q)) (is_placed text (normal_qso text q)) flags_kept places_kept

-- ---- twice is once, place by place
empty_part : (text : List ℕ) (k a n : ℕ) → is_empty (place k a n) ≡ true → part text (place k a n) ≡ []
unfolding part
empty_part text zero a n e = refl
empty_part text (suc zero) a n e = rw (eqb-true n 0 e) refl
empty_part text (suc (suc zero)) a n e = rw (eqb-true n 0 e) refl
empty_part text (suc (suc (suc k))) a n e =
    rw (ne_eqb (suc (suc (suc k))) 1 (λ z. omega arith), ne_eqb (suc (suc (suc k))) 2 (λ z. omega arith)) refl

no_parent : parent_entry [] ≡ absent
unfolding parent_entry
no_parent = rw no_submode refl

nothing_aliased : alias_entry [] ≡ absent
unfolding alias_entry
nothing_aliased = rw no_alias refl

-- an entry of the modes, or none
data Entry : Place → Type 0 where
  none : Entry absent
  entry : (k : ℕ) → Entry (mode_entry k)

entry_at_lem : (ns : List ℕ) (f : Option ℕ) → Entry (entry_at ns f)
entry_at_lem ns (Some k) = entry (get_or ns k 0)
entry_at_lem ns None = none

is_parent : (x : List ℕ) → Entry (parent_entry x)
unfolding parent_entry
is_parent x = entry_at_lem (mode_numbers submodes) (named x (names submodes))

is_alias : (x : List ℕ) → Entry (alias_entry x)
unfolding alias_entry
is_alias x = entry_at_lem (mode_numbers aliases) (named x (names aliases))

module _ (text : List ℕ) (m s : Place) where
  abbrev T : Place
  T = tidy text m

  abbrev S : Place
  S = tidy text s

  abbrev A : Place
  A = aliased_place text T

  entry_tidy : (k : ℕ) → tidy text (mode_entry k) ≡ mode_entry k
  unfolding tidy
  entry_tidy k = refl

  entry_part : (k : ℕ) → part text (mode_entry k) ≡ []
  unfolding part
  entry_part k = refl

  entry_aliased : (k : ℕ) → aliased_place text (mode_entry k) ≡ mode_entry k
  unfolding aliased_place
  entry_aliased k = rw (entry_part k, nothing_aliased) refl

  -- the alias, or the mode itself
  data Aliased : Type 0 where
    found : (k : ℕ) → A ≡ mode_entry k → Aliased
    kept : A ≡ T → Aliased

  aliased_is : (x : Place) → alias_entry (part text T) ≡ x → A ≡ or_else x T
  unfolding aliased_place
  aliased_is x e = rw e refl

  aliased_as : Aliased
  aliased_as = by (alias_entry (part text T)) refl (is_alias (part text T))
    where
      by : (x : Place) → alias_entry (part text T) ≡ x → Entry x → Aliased
      by _ e none = kept (aliased_is absent e)
      by _ e (entry k) = found k (aliased_is (mode_entry k) e)

  tidy_aliased : tidy text A ≡ A
  tidy_aliased = by aliased_as
    where
      by : Aliased → tidy text A ≡ A
      by (found k e) = rw e (entry_tidy k)
      by (kept e) = rw e (tidy_twice text m)

  aliased_twice : aliased_place text A ≡ A
  aliased_twice = by aliased_as
    where
      by : Aliased → aliased_place text A ≡ A
      by (found k e) = ap (aliased_place text) e ∙ entry_aliased k ∙ sym e
      by (kept e) = ap (aliased_place text) e

  aliased_parent : parent_entry (part text T) ≡ absent → parent_entry (part text A) ≡ absent
  aliased_parent h = by aliased_as
    where
      by : Aliased → parent_entry (part text A) ≡ absent
      by (found k e) = ap (λ (p : Place). parent_entry (part text p)) e ∙ ap parent_entry (entry_part k) ∙ no_parent
      by (kept e) = ap (λ (p : Place). parent_entry (part text p)) e ∙ h

  abbrev pair_of : Place → Place → ModePair
  pair_of a b = record { mode = a; submode = b }

  -- normalising by whether a submode is given, and by the parent
  blank_submode : (a b : Place) → is_empty (tidy text b) ≡ true → parent_entry (part text (tidy text a)) ≡ absent
      → normal_places text a text b ≡ pair_of (aliased_place text (tidy text a)) absent
  unfolding normal_places split_place
  blank_submode a b e h = rw (e, h) refl

  parent_found : (a b : Place) (k : ℕ) → is_empty (tidy text b) ≡ true → parent_entry (part text (tidy text a)) ≡ mode_entry k
      → normal_places text a text b ≡ pair_of (mode_entry k) (tidy text a)
  unfolding normal_places split_place
  parent_found a b k e h = rw (e, h) refl

  with_submode_given : (a b x : Place) → is_empty (tidy text b) ≡ false → parent_entry (part text (tidy text b)) ≡ x
      → normal_places text a text b ≡ pair_of (or_else x (aliased_place text (tidy text a))) (tidy text b)
  unfolding normal_places
  with_submode_given a b x e h = rw (e, h) refl

  absent_empty : is_empty (tidy text absent) ≡ true
  unfolding tidy
  absent_empty = refl

  abbrev again : ModePair → ModePair
  again r = normal_places text r.mode text r.submode

  -- a mode with a parent is not empty
  not_empty : (k : ℕ) → parent_entry (part text T) ≡ mode_entry k → is_empty T ≡ false
  not_empty k h = by (is_empty T) refl
    where
      by : (t : Bool) → is_empty T ≡ t → t ≡ false
      by false e = refl
      by true e =
          let z : absent ≡ mode_entry k = sym no_parent ∙ ap parent_entry (sym (empty_part text T.kind T.start T.len e)) ∙ h in
          absurd (let w : ◌≡◌ {A = ℕ} 0 4 = ap (λ (p : Place). p.kind) z in omega arith)

  pub pair_twice : again (normal_places text m text s) ≡ normal_places text m text s
  pair_twice = by (is_empty S) refl
    where
      split : is_empty S ≡ true → (x : Place) → parent_entry (part text T) ≡ x → Entry x → again (normal_places text m text s) ≡ normal_places text m text s
      split e _ h none =
          let once : normal_places text m text s ≡ pair_of A absent = blank_submode m s e h in
          let p : parent_entry (part text (tidy text A)) ≡ absent = rw tidy_aliased (aliased_parent h) in
          let twice : normal_places text A text absent ≡ pair_of (aliased_place text (tidy text A)) absent = blank_submode A absent absent_empty p in
          rw once (twice ∙ ap (λ (a : Place). pair_of a absent) (ap (aliased_place text) tidy_aliased ∙ aliased_twice))
      split e _ h (entry k) =
          let once : normal_places text m text s ≡ pair_of (mode_entry k) T = parent_found m s k e h in
          let t : tidy text T ≡ T = tidy_twice text m in
          let f : is_empty (tidy text T) ≡ false = ap (λ (p : Place). is_empty p) t ∙ not_empty k h in
          let p : parent_entry (part text (tidy text T)) ≡ mode_entry k = ap (λ (p : Place). parent_entry (part text p)) t ∙ h in
          rw once (with_submode_given (mode_entry k) T (mode_entry k) f p ∙ ap (pair_of (mode_entry k)) t)

      joined : is_empty S ≡ false → (x : Place) → parent_entry (part text S) ≡ x → Entry x → again (normal_places text m text s) ≡ normal_places text m text s
      joined e _ h none =
          let once : normal_places text m text s ≡ pair_of A S = with_submode_given m s absent e h in
          let t : tidy text S ≡ S = tidy_twice text s in
          let f : is_empty (tidy text S) ≡ false = ap (λ (p : Place). is_empty p) t ∙ e in
          let p : parent_entry (part text (tidy text S)) ≡ absent = ap (λ (p : Place). parent_entry (part text p)) t ∙ h in
          rw once
          (with_submode_given A S absent f p
          ∙ ap (λ (a : Place). pair_of a (tidy text S)) (ap (aliased_place text) tidy_aliased ∙ aliased_twice)
          ∙ ap (pair_of A) t)
      joined e _ h (entry k) =
          let once : normal_places text m text s ≡ pair_of (mode_entry k) S = with_submode_given m s (mode_entry k) e h in
          let t : tidy text S ≡ S = tidy_twice text s in
          let f : is_empty (tidy text S) ≡ false = ap (λ (p : Place). is_empty p) t ∙ e in
          let p : parent_entry (part text (tidy text S)) ≡ mode_entry k = ap (λ (p : Place). parent_entry (part text p)) t ∙ h in
          rw once (with_submode_given (mode_entry k) S (mode_entry k) f p ∙ ap (pair_of (mode_entry k)) t)

      by : (t : Bool) → is_empty S ≡ t → again (normal_places text m text s) ≡ normal_places text m text s
      by true e = split e (parent_entry (part text T)) refl (is_parent (part text T))
      by false e = joined e (parent_entry (part text S)) refl (is_parent (part text S))

-- an entry of the bands, or none
data Known : Place → Type 0 where
  unknown : Known absent
  known : (k : ℕ) → Known (band_entry k)

known_place : (f : Option ℕ) → Known (band_place f)
known_place (Some k) = known k
known_place None = unknown

known_pick : (t : Bool) (p q : Place) → Known p → Known q → Known (pick t p q)
known_pick true p q a b = a
known_pick false p q a b = b

-- what gives an entry or the place itself, and leaves entries alone, gives the same again
settles : (g : Place → Place) (x p : Place) → g p ≡ or_else x p → Known x → ((k : ℕ) → g (band_entry k) ≡ band_entry k) → g (g p) ≡ g p
settles g _ p e unknown h = ap g e
settles g _ p e (known k) h = ap g e ∙ h k ∙ sym e

module _ (text : List ℕ) (f : Frequency) where
  at_known : Known (band_at f)
  unfolding band_at
  at_known = known_pick (is_yes f.given) (band_place (band_for f.hz)) absent (known_place (band_for f.hz)) unknown

  named_known : (p : Place) → Known (known_band text p)
  unfolding known_band
  named_known p = known_place (band_named (part text p))

  band_stays : (k : ℕ) → normal_band_place text (band_entry k) f ≡ band_entry k
  unfolding normal_band_place blank known_band part
  band_stays k = rw no_band_lem refl

  band_rx_stays : (k : ℕ) → normal_band_rx_place text (band_entry k) f ≡ band_entry k
  unfolding normal_band_rx_place known_band part
  band_rx_stays k = rw no_band_lem refl

  band_opened : (p : Place) → normal_band_place text p f ≡ or_else (pick (blank text p) (band_at f) (known_band text p)) p
  unfolding normal_band_place
  band_opened p = refl

  band_rx_opened : (p : Place) → normal_band_rx_place text p f ≡ or_else (pick (is_absent p) (band_at f) (known_band text p)) p
  unfolding normal_band_rx_place
  band_rx_opened p = refl

  pub band_place_twice : (p : Place) → normal_band_place text (normal_band_place text p f) f ≡ normal_band_place text p f
  band_place_twice p =
      settles (λ (p : Place). normal_band_place text p f) (pick (blank text p) (band_at f) (known_band text p)) p (band_opened p)
      (known_pick (blank text p) (band_at f) (known_band text p) at_known (named_known p)) band_stays

  pub band_rx_place_twice : (p : Place) → normal_band_rx_place text (normal_band_rx_place text p f) f ≡ normal_band_rx_place text p f
  band_rx_place_twice p =
      settles (λ (p : Place). normal_band_rx_place text p f) (pick (is_absent p) (band_at f) (known_band text p)) p (band_rx_opened p)
      (known_pick (is_absent p) (band_at f) (known_band text p) at_known (named_known p)) band_rx_stays

-- the theorem, of a QSO with its thirteen columns
thirteen_twice : (text : List ℕ) (c0 c1 c2 c3 c4 c5 c6 c7 c8 c9 c10 c11 c12 : Place) (f g : Frequency) (d : Dxcc) → (q : Qso)
    → q ≡ record { columns = c0 ∷ c1 ∷ c2 ∷ c3 ∷ c4 ∷ c5 ∷ c6 ∷ c7 ∷ c8 ∷ c9 ∷ c10 ∷ c11 ∷ c12 ∷ []; freq = f; freq_rx = g; dxcc = d }
    → normal_qso text (normal_qso text q) ≡ normal_qso text q
unfolding normal_qso normal_columns
thirteen_twice text c0 c1 c2 c3 c4 c5 c6 c7 c8 c9 c10 c11 c12 f g d q e =
    rw e (rw (pair_twice text c4 c5, band_place_twice text f c3, band_rx_place_twice text g c8) refl)

-- a list of n places is its first n
abbrev firsts : ℕ → List Place → List Place
firsts zero ps = []
firsts (suc n) ps = get_or ps 0 absent ∷ firsts n (drop 1 ps)

all_firsts : (n : ℕ) (ps : List Place) → length ps ≡ n → ps ≡ firsts n ps
all_firsts zero [] e = refl
all_firsts zero (p ∷ ps) e = absurd (omega arith)
all_firsts (suc n) [] e = absurd (omega arith)
all_firsts (suc n) (p ∷ ps) e = ap (λ (l : List Place). p ∷ l) (all_firsts n ps (omega arith))

pub qso_twice : (text : List ℕ) (q : Qso) → length q.columns ≡ 13 → normal_qso text (normal_qso text q) ≡ normal_qso text q
qso_twice text q e =
    thirteen_twice text _ _ _ _ _ _ _ _ _ _ _ _ _ q.freq q.freq_rx q.dxcc q
    (ap (λ (cs : List Place). record { columns = cs; freq = q.freq; freq_rx = q.freq_rx; dxcc = q.dxcc }) (all_firsts 13 q.columns e))

-- of the call: what it gives, given to it again, comes back with the same verdict, refused or not
module _ (text : List ℕ) where
  too_long : (q : Qso) → leb (length text) 16777216 ≡ false → normalized_to text q ≡ refused TooLong q
  unfolding normalized_to
  too_long q l = rw l refl

  unfit : (q : Qso) → leb (length text) 16777216 ≡ true → is_qso text q ≡ false → normalized_to text q ≡ refused BadRow q
  unfolding normalized_to
  unfit q l e = rw (l, e) refl

  fine : (q : Qso) → leb (length text) 16777216 ≡ true → is_qso text q ≡ true → normalized_to text q ≡ accepted (normal_qso text q)
  unfolding normalized_to
  fine q l e = rw (l, e) refl

  pub normalized_twice : (q : Qso) → length q.columns ≡ 13 → normalized_to text (normalized_to text q).qso ≡ normalized_to text q
  normalized_twice q n = by (leb (length text) 16777216) (is_qso text q) refl refl
    where
      again : (a : Answer) → normalized_to text q ≡ a → normalized_to text a.qso ≡ a → normalized_to text (normalized_to text q).qso ≡ normalized_to text q
      again a e h = rw e h

      by : (l t : Bool) → leb (length text) 16777216 ≡ l → is_qso text q ≡ t → normalized_to text (normalized_to text q).qso ≡ normalized_to text q
      by false t l e = again (refused TooLong q) (too_long q l) (too_long q l)
      by true false l e = again (refused BadRow q) (unfit q l e) (unfit q l e)
      by true true l e =
          again (accepted (normal_qso text q)) (fine q l e)
          (fine (normal_qso text q) l (normal_kept text q e) ∙ ap accepted (qso_twice text q n))
