-- No name stands twice in the tables; a mode is no submode and no alias. So normalising a mode twice is normalising it once, and
-- a known submode sets its parent. Assumes nothing.
use Rattle.std.specs.Prelude.{Option, None, Some}
use mathlib.Core.Path.{◌≡◌, refl, sym, ap, ◌∙◌}
use mathlib.Core.Bool.{Bool, true, false}
use mathlib.Core.List.{List, [], ◌∷◌, ◌++◌, map}
use Prim.Native.Nat.{ℕ, ◌<◌}
use native.Mathlib.Omega.{arith}
use lib.ListN.{length, get_or}
use borrow.Author.Tests.{not-true}
use Rattle.text.specs.Pick.{pick, both}
use Rattle.text.specs.Space.{space1, space2, space3, space80, space_len, space_back, width, trim_start, trim_end, trimmed}
use Rattle.text.specs.Walk.{lead}
use Rattle.text.proofs.BoolLaws.{both_left, both_right}
use Rattle.letters.specs.Capitals.{raised}
use Rattle.letters.specs.Same.{same, same_raised}
use Rattle.letters.proofs.CapitalLaws.{capitals_twice}
use Rattle.letters.proofs.SameLaws.{same_true}
use Rattle.letters.proofs.SpaceLaws.{trim_capitals}
use Rattle.tables.specs.Bands.{bands, band_names}
use Rattle.tables.specs.Modes.{modes, mode_names}
use Rattle.normalize.specs.Modes.{Known, submodes, aliases}
use Rattle.normalize.specs.Normal.{tidied, lookup, parent_of, otherwise, aliased, unless_empty, given, Normal, split, joined, normal, names}
use Rattle.tables.proofs.Tested.{all, pairs, all_at, pair_at}
use Rattle.normalize.proofs.TrimLaws.{trim_twice}

abbrev pub not : Bool → Bool
not true = false
not false = true

-- ---- no name stands twice, the case of letters aside: not among the bands, and not among modes, submodes and aliases
abbrev pub all_mode_names : List (List ℕ)
all_mode_names = mode_names ++ (names submodes ++ names aliases)

modes_differ : pairs (λ (x y : List ℕ). not (same_raised x y)) all_mode_names ≡ true
unfolding mode_names modes submodes aliases same_raised raised
modes_differ = refl

bands_differ : pairs (λ (x y : List ℕ). not (same_raised x y)) band_names ≡ true
unfolding band_names bands same_raised raised
bands_differ = refl

pub no_mode_twice : (j k : ℕ) → j < k → k < length all_mode_names → same_raised (get_or all_mode_names j []) (get_or all_mode_names k []) ≡ false
no_mode_twice j k l h = not-true _ (pair_at [] (λ (x y : List ℕ). not (same_raised x y)) all_mode_names modes_differ j k l h)

pub no_band_twice : (j k : ℕ) → j < k → k < length band_names → same_raised (get_or band_names j []) (get_or band_names k []) ≡ false
no_band_twice j k l h = not-true _ (pair_at [] (λ (x y : List ℕ). not (same_raised x y)) band_names bands_differ j k l h)

-- ---- a mode is tidy, no submode and no alias, and so is every parent and every mode that an alias stands for
abbrev pub is_none : Option (List ℕ) → Bool
is_none None = true
is_none (Some x) = false

pub is_none_lem : (o : Option (List ℕ)) → is_none o ≡ true → o ≡ None
is_none_lem None e = refl
is_none_lem (Some x) e = absurd (let z : ◌≡◌ {A = ℕ} 0 1 = cc in omega arith)

unfoldable pub settled : List ℕ → Bool
settled x = both (same (tidied x) x) (both (is_none (parent_of x)) (both (is_none (lookup x aliases)) (not (same x []))))

module _ (x : List ℕ) (e : settled x ≡ true) where
  rest1 : both (is_none (parent_of x)) (both (is_none (lookup x aliases)) (not (same x []))) ≡ true
  unfolding settled
  rest1 = both_right (same (tidied x) x) (both (is_none (parent_of x)) (both (is_none (lookup x aliases)) (not (same x [])))) e

  rest2 : both (is_none (lookup x aliases)) (not (same x [])) ≡ true
  rest2 = both_right (is_none (parent_of x)) (both (is_none (lookup x aliases)) (not (same x []))) rest1

  pub settled_tidy : tidied x ≡ x
  unfolding settled
  settled_tidy =
      same_true (tidied x) x (both_left (same (tidied x) x) (both (is_none (parent_of x)) (both (is_none (lookup x aliases)) (not (same x [])))) e)

  pub settled_parent : parent_of x ≡ None
  settled_parent = is_none_lem (parent_of x) (both_left (is_none (parent_of x)) (both (is_none (lookup x aliases)) (not (same x []))) rest1)

  pub settled_lookup : lookup x aliases ≡ None
  settled_lookup = is_none_lem (lookup x aliases) (both_left (is_none (lookup x aliases)) (not (same x [])) rest2)

  pub settled_alias : aliased x ≡ x
  unfolding aliased
  settled_alias = rw settled_lookup refl

  pub settled_some : unless_empty x ≡ Some x
  settled_some = by x (both_right (is_none (lookup x aliases)) (not (same x [])) rest2)
    where
      by : (y : List ℕ) → not (same y []) ≡ true → unless_empty y ≡ Some y
      by [] q = absurd (let z : ◌≡◌ {A = ℕ} 0 1 = cc in omega arith)
      by (b ∷ bs) q = refl

modes_settled : all settled mode_names ≡ true
unfolding settled mode_names modes tidied parent_of submodes aliases trimmed trim_start trim_end lead space_len space_back width space1 space2 space3 space80 raised
modes_settled = refl

pub mode_settled : (k : ℕ) → k < length mode_names → settled (get_or mode_names k []) ≡ true
mode_settled k h = all_at [] settled mode_names modes_settled k h

abbrev mode_of : Known → List ℕ
mode_of r = r.mode

parents_settled : all settled (map mode_of submodes) ≡ true
unfolding settled tidied parent_of submodes aliases trimmed trim_start trim_end lead space_len space_back width space1 space2 space3 space80 raised
parents_settled = refl

targets_settled : all settled (map mode_of aliases) ≡ true
unfolding settled tidied parent_of submodes aliases trimmed trim_start trim_end lead space_len space_back width space1 space2 space3 space80 raised
targets_settled = refl

looked_up : (test : List ℕ → Bool) (x y : List ℕ) (rows : List Known) → all test (map mode_of rows) ≡ true → lookup x rows ≡ Some y → test y ≡ true
looked_up test x y [] t e = absurd (let z : ◌≡◌ {A = ℕ} 0 1 = cc in omega arith)
looked_up test x y (r ∷ rs) t e = by (same x r.name) e (λ q. looked_up test x y rs (both_right (test r.mode) (all test (map mode_of rs)) t) q)
  where
    by : (b : Bool) → pick b (Some r.mode) (lookup x rs) ≡ Some y → (lookup x rs ≡ Some y → test y ≡ true) → test y ≡ true
    by true q k =
        let z : r.mode ≡ y = cc in
        rw z at (both_left (test r.mode) (all test (map mode_of rs)) t)
    by false q k = k q

pub parent_settled : (x y : List ℕ) → parent_of x ≡ Some y → settled y ≡ true
unfolding parent_of
parent_settled x y e = looked_up settled x y submodes parents_settled e

pub target_settled : (x y : List ℕ) → lookup x aliases ≡ Some y → settled y ≡ true
target_settled x y e = looked_up settled x y aliases targets_settled e

-- ---- a known submode sets its parent
pub submode_sets_parent : (m s p : List ℕ) → parent_of (tidied s) ≡ Some p → (normal m (Some s)).mode ≡ p
unfolding normal parent_of submodes
submode_sets_parent m s p e = by (tidied s) e
  where
    by : (t : List ℕ) → parent_of t ≡ Some p → (joined (tidied m) (unless_empty t)).mode ≡ p
    by [] q = absurd (let z : ◌≡◌ {A = ℕ} 0 1 = cc in omega arith)
    by (b ∷ bs) q = rw q refl

-- ---- twice is once
pub tidied_twice : (x : List ℕ) → tidied (tidied x) ≡ tidied x
unfolding tidied
tidied_twice x = rw (trim_capitals (trimmed x), trim_twice x) (capitals_twice (trimmed x))

-- the alias of a tidy mode is tidy, is its own alias, and is a submode only if the mode is
module _ (m : List ℕ) (t : tidied m ≡ m) where
  alias_tidy : tidied (aliased m) ≡ aliased m
  unfolding aliased
  alias_tidy = by (lookup m aliases) refl
    where
      by : (o : Option (List ℕ)) → lookup m aliases ≡ o → tidied (otherwise o m) ≡ otherwise o m
      by None e = t
      by (Some y) e = settled_tidy y (target_settled m y e)

  alias_twice : aliased (aliased m) ≡ aliased m
  unfolding aliased
  alias_twice = by (lookup m aliases) refl
    where
      by : (o : Option (List ℕ)) → lookup m aliases ≡ o → otherwise (lookup (otherwise o m) aliases) (otherwise o m) ≡ otherwise o m
      by None e = rw e refl
      by (Some y) e = rw (settled_lookup y (target_settled m y e)) refl

  alias_parent : parent_of m ≡ None → parent_of (aliased m) ≡ None
  unfolding aliased
  alias_parent n = by (lookup m aliases) refl
    where
      by : (o : Option (List ℕ)) → lookup m aliases ≡ o → parent_of (otherwise o m) ≡ None
      by None e = n
      by (Some y) e = settled_parent y (target_settled m y e)

empty_parent : parent_of [] ≡ None
unfolding parent_of submodes
empty_parent = refl

-- what is given is tidy and not empty
given_tidy : (s : Option (List ℕ)) (x : List ℕ) → given s ≡ Some x → unless_empty (tidied x) ≡ Some x
given_tidy None x e = absurd (let z : ◌≡◌ {A = ℕ} 0 1 = cc in omega arith)
given_tidy (Some y) x e = by (tidied y) refl e
  where
    by : (z : List ℕ) → tidied y ≡ z → unless_empty z ≡ Some x → unless_empty (tidied x) ≡ Some x
    by [] p q = absurd (let z : ◌≡◌ {A = ℕ} 0 1 = cc in omega arith)
    by (b ∷ bs) p q =
        let w : b ∷ bs ≡ x = cc in
        let v : tidied x ≡ x = ap tidied (sym (p ∙ w)) ∙ tidied_twice y ∙ p ∙ w in
        rw v (rw (← w) refl)

split_twice : (m : List ℕ) → tidied m ≡ m → joined (tidied (split m (parent_of m)).mode) (given (split m (parent_of m)).submode) ≡ split m (parent_of m)
split_twice m t = by (parent_of m) refl
  where
    some_of : (m : List ℕ) → (parent_of m ≡ None → ⊥) → unless_empty m ≡ Some m
    some_of [] n = absurd (n empty_parent)
    some_of (b ∷ bs) n = refl

    by : (o : Option (List ℕ)) → parent_of m ≡ o → joined (tidied (split m o).mode) (given (split m o).submode) ≡ split m o
    by None e = rw (alias_tidy m t, alias_parent m t e, alias_twice m t) refl
    by (Some p) e = rw (t, some_of m (λ n. let z : ◌≡◌ {A = ℕ} 0 1 = cc in omega arith), e) refl

pub normal_twice : (m : List ℕ) (s : Option (List ℕ)) → normal (normal m s).mode (normal m s).submode ≡ normal m s
unfolding normal
normal_twice m s = by (given s) refl
  where
    by : (o : Option (List ℕ)) → given s ≡ o → joined (tidied (joined (tidied m) o).mode) (given (joined (tidied m) o).submode) ≡ joined (tidied m) o
    by None e = split_twice (tidied m) (tidied_twice m)
    by (Some x) e = rw (given_tidy s x e) (to (parent_of x) refl)
      where
        to : (q : Option (List ℕ)) → parent_of x ≡ q
            → ◌≡◌ {A = Normal} (record { mode = otherwise (parent_of x) (aliased (tidied (otherwise (parent_of x) (aliased (tidied m))))); submode = Some x })
            (record { mode = otherwise (parent_of x) (aliased (tidied m)); submode = Some x })
        to None p = rw (p, alias_tidy (tidied m) (tidied_twice m), alias_twice (tidied m) (tidied_twice m)) refl
        to (Some y) p = rw p refl
