-- Laws of the names of entries, and of what a look-up found. Assumes nothing.
use Rattle.std.specs.Prelude.{Some}
use mathlib.Core.Path.{◌≡◌, refl, ◌∙◌}
use mathlib.Core.Bool.{Bool}
use mathlib.Core.List.{List, [], ◌∷◌}
use Prim.Native.Nat.{ℕ, zero, suc, ◌≤◌, ◌<◌}
use native.Mathlib.Nat.{not-suc-le-zero, le_of_suc-le-suc}
use lib.ListN.{length, get_or, take, get_or-eq_default}
use lib.Seq.{take-take, take-append_seam}
use Rattle.tables.specs.Table.{entry, Columns, first_from}
use Rattle.tables.specs.Place.{spelled, no_name, name_at}
use Rattle.tables.specs.declared.Name.{Name}

-- ---- an entry of a list
pub entry_in_lem : (l : List (List ℕ)) (k : ℕ) → k < length l → entry l k ≡ Some (get_or l k [])
entry_in_lem [] k h = absurd (not-suc-le-zero h)
entry_in_lem (x ∷ xs) zero h = refl
entry_in_lem (x ∷ xs) (suc k) h = entry_in_lem xs k (le_of_suc-le-suc h)

-- ---- tests that agree find the same entry
pub first_alike : (f g : List ℕ → Bool) → ((n : List ℕ) → f n ≡ g n) → (j : ℕ) (ns : List (List ℕ)) → first_from f j ns ≡ first_from g j ns
first_alike f g e j [] = refl
first_alike f g e j (n ∷ ns) = rw (e n, first_alike f g e (suc j) ns) refl

-- ---- a name is the front of its twelve bytes
pub spelled_out : (x : List ℕ) → length x ≤ 12 → take (spelled x).len (spelled x).bytes ≡ x
spelled_out x h = take-take (length x) 12 _ h ∙ take-append_seam x _

-- ---- entries past the end of the columns have no name
pub no_entry_lem : (names : List (List ℕ)) (lens : List ℕ) (k : ℕ) (r : Name) → Columns names lens → length names ≤ k → r ≡ no_name → r ≡ name_at names lens k
unfolding name_at
no_entry_lem names lens k r cs h e =
    e ∙ rw (get_or-eq_default names no_name.bytes h, get_or-eq_default lens 0 (rw cs.alike at h)) refl

pub entry_here : (names : List (List ℕ)) (lens : List ℕ) (k : ℕ) → k < length names
    → ◌≡◌ {A = Name} (record { bytes = get_or names k []; len = get_or lens k 0 }) (name_at names lens k)
unfolding name_at
entry_here names lens k h = rw (in_range names k h) refl
  where
    in_range : (l : List (List ℕ)) (k : ℕ) → k < length l → get_or l k [] ≡ get_or l k no_name.bytes
    in_range [] k h = absurd (not-suc-le-zero h)
    in_range (x ∷ xs) zero h = refl
    in_range (x ∷ xs) (suc k) h = in_range xs k (le_of_suc-le-suc h)
