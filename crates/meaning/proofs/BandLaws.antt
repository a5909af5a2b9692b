-- A name of the bands is its own canonical form and is not blank; a name of the modes names no band. So normalising a contact twice is
-- normalising it once. Assumes nothing.
use Rattle.std.specs.Prelude.{Some, None, Option}
use mathlib.Core.Path.{◌≡◌, refl, ap, ◌∙◌}
use mathlib.Core.Bool.{Bool, true, false, not}
use mathlib.Core.List.{List, [], ◌∷◌}
use Prim.Native.Nat.{ℕ, zero, suc}
use native.Mathlib.Omega.{arith}
use borrow.Author.Tests.{not-true}
use Rattle.text.specs.Pick.{pick, both}
use Rattle.text.specs.Space.{space1, space2, space3, space80, space_len, space_back, width, trim_start, trim_end, trimmed}
use Rattle.text.specs.Walk.{lead}
use Rattle.text.proofs.BoolLaws.{both_left, both_right}
use Rattle.letters.specs.Capitals.{raised}
use Rattle.letters.specs.Same.{same, same_raised}
use Rattle.letters.proofs.SameLaws.{same_true}
use Rattle.tables.specs.Table.{named, entry}
use Rattle.tables.specs.Bands.{bands, band_names, band_for, band_named}
use Rattle.tables.specs.Modes.{modes, mode_names}
use Rattle.tables.proofs.Tested.{all}
use Rattle.normalize.specs.Normal.{otherwise, normal}
use Rattle.normalize.proofs.ModeTheorems.{normal_twice, is_none, is_none_lem}
use Rattle.model.specs.Contact.{Contact}
use Rattle.model.specs.Normal.{band_name, band_of, canonical, is_blank, normal_band, normal_band_rx, normal_contact}

-- ---- the tables, tested once
abbrev pub names : Option (List ℕ) → List ℕ → Bool
names None x = false
names (Some y) x = same y x

unfoldable pub settled : List ℕ → Bool
settled x = both (not (is_blank x)) (names (canonical x) x)

unfoldable pub foreign : List ℕ → Bool
foreign x = both (not (is_blank x)) (is_none (canonical x))

bands_settled : all settled band_names ≡ true
unfolding settled is_blank canonical band_named named band_names bands trimmed trim_start trim_end lead space_len space_back width space1 space2 space3 space80 same_raised raised
bands_settled = refl

modes_foreign : all foreign mode_names ≡ true
unfolding foreign is_blank canonical band_named named band_names bands mode_names modes trimmed trim_start trim_end lead space_len space_back width space1 space2 space3 space80 same_raised raised
modes_foreign = refl

entry_tested : (test : List ℕ → Bool) (xs : List (List ℕ)) (k : ℕ) (y : List ℕ) → all test xs ≡ true → entry xs k ≡ Some y → test y ≡ true
entry_tested test [] k y t e = absurd (let z : ◌≡◌ {A = ℕ} 0 1 = cc in omega arith)
entry_tested test (x ∷ xs) zero y t e =
    let z : x ≡ y = cc in
    rw z at (both_left (test x) (all test xs) t)
entry_tested test (x ∷ xs) (suc k) y t e = entry_tested test xs k y (both_right (test x) (all test xs) t) e

module _ (x : List ℕ) (e : settled x ≡ true) where
  pub settled_not_blank : is_blank x ≡ false
  unfolding settled
  settled_not_blank = not-true (is_blank x) (both_left (not (is_blank x)) (names (canonical x) x) e)

  pub settled_canonical : canonical x ≡ Some x
  unfolding settled
  settled_canonical = by (canonical x) refl (both_right (not (is_blank x)) (names (canonical x) x) e)
    where
      by : (o : Option (List ℕ)) → canonical x ≡ o → names o x ≡ true → o ≡ Some x
      by None p q = absurd (let z : ◌≡◌ {A = ℕ} 0 1 = cc in omega arith)
      by (Some y) p q = ap Some (same_true y x q)

module _ (x : List ℕ) (e : foreign x ≡ true) where
  pub foreign_not_blank : is_blank x ≡ false
  unfolding foreign
  foreign_not_blank = not-true (is_blank x) (both_left (not (is_blank x)) (is_none (canonical x)) e)

  pub foreign_canonical : canonical x ≡ None
  unfolding foreign
  foreign_canonical = is_none_lem (canonical x) (both_right (not (is_blank x)) (is_none (canonical x)) e)

pub band_entry_lem : (k : ℕ) (y : List ℕ) → entry band_names k ≡ Some y → settled y ≡ true
band_entry_lem k y e = entry_tested settled band_names k y bands_settled e

pub mode_entry_lem : (k : ℕ) (y : List ℕ) → entry mode_names k ≡ Some y → foreign y ≡ true
mode_entry_lem k y e = entry_tested foreign mode_names k y modes_foreign e

found_settled : (f : Option ℕ) (y : List ℕ) → band_name f ≡ Some y → settled y ≡ true
found_settled (Some k) y e = band_entry_lem k y e
found_settled None y e = absurd (let z : ◌≡◌ {A = ℕ} 0 1 = cc in omega arith)

derived_settled : (f : Option ℕ) (y : List ℕ) → band_of f ≡ Some y → settled y ≡ true
derived_settled None y e = absurd (let z : ◌≡◌ {A = ℕ} 0 1 = cc in omega arith)
derived_settled (Some hz) y e = found_settled (band_for hz) y e

canonical_settled : (b y : List ℕ) → canonical b ≡ Some y → settled y ≡ true
unfolding canonical
canonical_settled b y e = found_settled (band_named b) y e

-- ---- twice is once
settled_band : (y : List ℕ) (f : Option ℕ) → settled y ≡ true → normal_band y f ≡ y
unfolding normal_band
settled_band y f s = rw (settled_not_blank y s, settled_canonical y s) refl

pub opened : (b : List ℕ) (f : Option ℕ) (t : Bool) → is_blank b ≡ t → normal_band b f ≡ pick t (otherwise (band_of f) b) (otherwise (canonical b) b)
unfolding normal_band
opened b f t e = rw e refl

pub band_twice : (b : List ℕ) (f : Option ℕ) → normal_band (normal_band b f) f ≡ normal_band b f
band_twice b f = by (is_blank b) refl
  where
    is : (t : Bool) → is_blank b ≡ t → normal_band b f ≡ pick t (otherwise (band_of f) b) (otherwise (canonical b) b)
    is t e = opened b f t e

    same_again : (y : List ℕ) → normal_band b f ≡ y → normal_band y f ≡ y → normal_band (normal_band b f) f ≡ normal_band b f
    same_again y p q = rw p q

    by : (t : Bool) → is_blank b ≡ t → normal_band (normal_band b f) f ≡ normal_band b f
    by true e = derive (band_of f) refl
      where
        derive : (o : Option (List ℕ)) → band_of f ≡ o → normal_band (normal_band b f) f ≡ normal_band b f
        derive None p = same_again b (is true e ∙ ap (λ (o : Option (List ℕ)). otherwise o b) p) (is true e ∙ ap (λ (o : Option (List ℕ)). otherwise o b) p)
        derive (Some y) p = same_again y (is true e ∙ ap (λ (o : Option (List ℕ)). otherwise o b) p) (settled_band y f (derived_settled f y p))
    by false e = cased (canonical b) refl
      where
        cased : (o : Option (List ℕ)) → canonical b ≡ o → normal_band (normal_band b f) f ≡ normal_band b f
        cased None p = same_again b (is false e ∙ ap (λ (o : Option (List ℕ)). otherwise o b) p) (is false e ∙ ap (λ (o : Option (List ℕ)). otherwise o b) p)
        cased (Some y) p = same_again y (is false e ∙ ap (λ (o : Option (List ℕ)). otherwise o b) p) (settled_band y f (canonical_settled b y p))

cased_twice : (b : List ℕ) → otherwise (canonical (otherwise (canonical b) b)) (otherwise (canonical b) b) ≡ otherwise (canonical b) b
cased_twice b = by (canonical b) refl
  where
    by : (o : Option (List ℕ)) → canonical b ≡ o → otherwise (canonical (otherwise o b)) (otherwise o b) ≡ otherwise o b
    by None p = rw p refl
    by (Some y) p = rw (settled_canonical y (canonical_settled b y p)) refl

pub band_rx_twice : (b : Option (List ℕ)) (f : Option ℕ) → normal_band_rx (normal_band_rx b f) f ≡ normal_band_rx b f
unfolding normal_band_rx
band_rx_twice (Some b) f = ap Some (cased_twice b)
band_rx_twice None f = by (band_of f) refl
  where
    by : (o : Option (List ℕ)) → band_of f ≡ o → normal_band_rx o f ≡ o
    by None p = p
    by (Some y) p = rw (settled_canonical y (derived_settled f y p)) refl

-- the theorem: normalising is idempotent
pub contact_twice : (c : Contact) → normal_contact (normal_contact c) ≡ normal_contact c
unfolding normal_contact
contact_twice c =
    let b : normal_band (normal_band c.band c.freq) c.freq ≡ normal_band c.band c.freq = band_twice c.band c.freq in
    let x : normal_band_rx (normal_band_rx c.band_rx c.freq_rx) c.freq_rx ≡ normal_band_rx c.band_rx c.freq_rx = band_rx_twice c.band_rx c.freq_rx in
    let m : normal (normal c.mode c.submode).mode (normal c.mode c.submode).submode ≡ normal c.mode c.submode = normal_twice c.mode c.submode in
    rw (b, x, m) refl

pub no_band_lem : band_named [] ≡ None
unfolding band_named named band_names bands trimmed trim_start trim_end lead space_len space_back width space1 space2 space3 space80 same_raised raised
no_band_lem = refl
