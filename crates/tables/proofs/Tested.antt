-- A rule of a table, from one computed test of all its entries, or of each two of them. Assumes nothing.
use mathlib.Core.Path.{◌≡◌}
use mathlib.Core.Bool.{Bool, true}
use mathlib.Core.List.{List, [], ◌∷◌}
use Prim.Native.Nat.{ℕ, zero, suc, ◌<◌}
use native.Mathlib.Nat.{not-suc-le-zero, le_of_suc-le-suc}
use lib.ListN.{length, get_or}
use Rattle.text.specs.Pick.{both}
use Rattle.text.proofs.BoolLaws.{both_left, both_right}

abbrev pub all : {A : Type 0} → (A → Bool) → List A → Bool
all test [] = true
all test (x ∷ xs) = both (test x) (all test xs)

-- each entry with each later one
abbrev pub pairs : {A : Type 0} → (A → A → Bool) → List A → Bool
pairs test [] = true
pairs test (x ∷ xs) = both (all (test x) xs) (pairs test xs)

module _ {A : Type 0} (d : A) where
  pub all_at : (test : A → Bool) (xs : List A) → all test xs ≡ true → (k : ℕ) → k < length xs → test (get_or xs k d) ≡ true
  all_at test [] t k h = absurd (not-suc-le-zero h)
  all_at test (x ∷ xs) t zero h = both_left (test x) (all test xs) t
  all_at test (x ∷ xs) t (suc k) h = all_at test xs (both_right (test x) (all test xs) t) k (le_of_suc-le-suc h)

  pub pair_at : (test : A → A → Bool) (xs : List A) → pairs test xs ≡ true → (j k : ℕ) → j < k → k < length xs
      → test (get_or xs j d) (get_or xs k d) ≡ true
  pair_at test [] t j k l h = absurd (not-suc-le-zero h)
  pair_at test (x ∷ xs) t j zero l h = absurd (not-suc-le-zero l)
  pair_at test (x ∷ xs) t zero (suc k) l h = all_at (test x) xs (both_left (all (test x) xs) (pairs test xs) t) k (le_of_suc-le-suc h)
  pair_at test (x ∷ xs) t (suc j) (suc k) l h =
      pair_at test xs (both_right (all (test x) xs) (pairs test xs) t) j k (le_of_suc-le-suc l) (le_of_suc-le-suc h)
