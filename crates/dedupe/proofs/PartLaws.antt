-- What is the same of a text and of its capitals, and of each entry's name as of no text at all, is read off a place's part of the text.
-- Assumes nothing.
use mathlib.Core.Path.{◌≡◌, refl}
use mathlib.Core.Bool.{Bool, true}
use mathlib.Core.List.{List, [], ◌∷◌}
use Prim.Native.Nat.{ℕ, zero, suc}
use native.Mathlib.Omega.{arith}
use lib.ListN.{take, drop}
use borrow.Author.Tests.{ne_eqb}
use Rattle.text.proofs.BoolLaws.{both_left, both_right}
use Rattle.letters.specs.Capitals.{capitals}
use Rattle.tables.specs.Table.{entry}
use Rattle.tables.specs.Bands.{band_names}
use Rattle.tables.specs.Modes.{mode_names}
use Rattle.tables.specs.Place.{place, part, value, or_empty, bytes}
use Rattle.tables.proofs.Tested.{all}

-- an entry, where each of the list passes a test, and so does no text
pub entry_all : (test : List ℕ → Bool) → test [] ≡ true → (l : List (List ℕ)) → all test l ≡ true → (k : ℕ) → test (or_empty (entry l k)) ≡ true
entry_all test none [] e k = none
entry_all test none (x ∷ xs) e zero = both_left (test x) (all test xs) e
entry_all test none (x ∷ xs) e (suc k) = entry_all test none xs (both_right (test x) (all test xs) e) k

module _ {A : Type 0} (f : List ℕ → A) (raises : (xs : List ℕ) → f (capitals xs) ≡ f xs) (band : (a : ℕ) → f (or_empty (entry band_names a)) ≡ f []) (mode : (a : ℕ) → f (or_empty (entry mode_names a)) ≡ f []) (text : List ℕ) where
  pub by_part : (k a n : ℕ) → f (bytes text (place k a n)) ≡ f (part text (place k a n))
  unfolding value part
  by_part zero a n = refl
  by_part (suc zero) a n = refl
  by_part (suc (suc zero)) a n = raises (take n (drop a text))
  by_part (suc (suc (suc zero))) a n = band a
  by_part (suc (suc (suc (suc zero)))) a n = mode a
  by_part (suc (suc (suc (suc (suc k))))) a n =
      rw (
        ne_eqb (suc (suc (suc (suc (suc k))))) 1 (λ e. omega arith),
        ne_eqb (suc (suc (suc (suc (suc k))))) 2 (λ e. omega arith),
        ne_eqb (suc (suc (suc (suc (suc k))))) 3 (λ e. omega arith),
        ne_eqb (suc (suc (suc (suc (suc k))))) 4 (λ e. omega arith),
      )
      refl
