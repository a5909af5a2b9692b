-- Laws of a look-up in a table: what a loop over its columns asks. Assumes nothing.
use Rattle.std.specs.Prelude.{Option, Some, None}
use mathlib.Core.Path.{◌≡◌, refl, sym, ◌∙◌}
use mathlib.Core.Bool.{Bool, true, false}
use mathlib.Core.List.{List, [], ◌∷◌, map}
use Prim.Native.Nat.{ℕ, zero, suc, ◌+◌, ◌≤◌, ◌<◌}
use native.Mathlib.Nat.{not-suc-le-zero, le_of_suc-le-suc}
use native.Mathlib.Numerals.{add-one}
use native.Mathlib.Omega.{arith}
use lib.Dec.{T, leb}
use lib.ListN.{length, get_or, drop, take}
use lib.Seq.{drop-nil}
use borrow.Author.Tests.{leb-true}
use Rattle.text.specs.Pick.{both}
use Rattle.letters.specs.Same.{same_raised}
use Rattle.tables.specs.Table.{first_from, named, cut, entry, Columns}
use Rattle.tables.specs.Place.{spelled, or_empty, name_at}

-- ---- two columns from entry i on, and past their end
cut_drop : (ns : List (List ℕ)) (ls : List ℕ) (i : ℕ) → i < length ns → i < length ls
    → drop i (cut ns ls) ≡ take (get_or ls i 0) (get_or ns i []) ∷ drop (suc i) (cut ns ls)
unfolding cut
cut_drop [] ls i h k = absurd (not-suc-le-zero h)
cut_drop (n ∷ ns) [] i h k = absurd (not-suc-le-zero k)
cut_drop (n ∷ ns) (l ∷ ls) zero h k = refl
cut_drop (n ∷ ns) (l ∷ ls) (suc i) h k = cut_drop ns ls i (le_of_suc-le-suc h) (le_of_suc-le-suc k)

cut_past : (ns : List (List ℕ)) (ls : List ℕ) (i : ℕ) → length ns ≤ i → drop i (cut ns ls) ≡ []
unfolding cut
cut_past [] ls i h = drop-nil i
cut_past (n ∷ ns) [] i h = drop-nil i
cut_past (n ∷ ns) (l ∷ ls) zero h = absurd (not-suc-le-zero h)
cut_past (n ∷ ns) (l ∷ ls) (suc i) h = cut_past ns ls i (le_of_suc-le-suc h)

-- ---- by name: what a loop carries is that from entry i on the answer r is found
abbrev pub Named-from : List ℕ → List (List ℕ) → List ℕ → ℕ → Option ℕ → Type 0
Named-from text ns ls i r = first_from (same_raised text) i (drop i (cut ns ls)) ≡ r

pub named_start : (text : List ℕ) (ns : List (List ℕ)) (ls : List ℕ) → Named-from text ns ls 0 (named text (cut ns ls))
unfolding named
named_start text ns ls = refl

module _ (text : List ℕ) (ns : List (List ℕ)) (ls : List ℕ) (i : ℕ) (r : Option ℕ) (hn : i < length ns) (cs : Columns ns ls) (q : Named-from text ns ls i r) (b : Bool) (e : b ≡ same_raised text (take (get_or ls i 0) (get_or ns i []))) where
  pub named_here : b ≡ true → Some i ≡ r
  named_here t =
      let hl : i < length ls = omega (arith, cs.alike) in
      let s : same_raised text (take (get_or ls i 0) (get_or ns i [])) ≡ true = sym e ∙ t in
      rw (cut_drop ns ls i hn hl, s) at q

  pub named_on : b ≡ false → Named-from text ns ls (i + 1) r
  named_on t =
      let hl : i < length ls = omega (arith, cs.alike) in
      let s : same_raised text (take (get_or ls i 0) (get_or ns i [])) ≡ false = sym e ∙ t in
      rw add-one (rw (cut_drop ns ls i hn hl, s) at q)

pub named_none : (text : List ℕ) (ns : List (List ℕ)) (ls : List ℕ) (i : ℕ) (r : Option ℕ) → length ns ≤ i → Named-from text ns ls i r → None ≡ r
named_none text ns ls i r h q = rw (cut_past ns ls i h) at q

-- ---- no number of a list is above m: a test that antt computes, and its rule at every place
abbrev pub all_le : ℕ → List ℕ → Bool
all_le m [] = true
all_le m (x ∷ xs) = both (leb x m) (all_le m xs)

le_first : (x m : ℕ) (xs : List ℕ) (b : Bool) → leb x m ≡ b → T (both b (all_le m xs)) → (x ≤ m) × T (all_le m xs)
le_first x m xs true e t = (leb-true x m e, t)
le_first x m xs false e t = absurd t

pub all_le_lem : (m : ℕ) (l : List ℕ) → T (all_le m l) → (k : ℕ) → get_or l k 0 ≤ m
all_le_lem m [] t k = omega arith
all_le_lem m (x ∷ xs) t zero = (le_first x m xs (leb x m) refl t).0
all_le_lem m (x ∷ xs) t (suc k) = all_le_lem m xs (le_first x m xs (leb x m) refl t).1 k

-- ---- the name at entry k, where the columns are those of the table
pub name_at_lem : (names : List (List ℕ)) (k : ℕ) → name_at (map (λ (x : List ℕ). (spelled x).bytes) names) (map length names) k ≡ spelled (or_empty (entry names k))
unfolding name_at
name_at_lem [] k = refl
name_at_lem (x ∷ xs) zero = refl
name_at_lem (x ∷ xs) (suc k) = name_at_lem xs k
