-- What settling the fates leaves in the rows of a plan: the fate of each record; all else as it was, but for the chains.
use Rattle.std.specs.Prelude.{ℕ, ◌<◌, ◌≡◌, Bool, List, [], ◌∷◌, ℤ, length, get_or, drop}
use Rattle.chain.specs.Chain.{col}
use Rattle.plan.specs.Entry.{Entry}
use Rattle.plan.specs.Fates.{fates_to}
use Rattle.entries.specs.Row.{Row}

-- the contacts that n records found, by number and one
unfoldable pub Found : ℕ → List ℕ → List Row → Type 0
Found n hits rows = (k : ℕ) → k < n → col rows k 22 ≡ get_or hits k 0

unfoldable pub Fated : ℤ → Bool → List Entry → List ℕ → ℕ → List Row → Type 0
Fated window download es hits n rows = (k : ℕ) → k < n → col rows k 0 ≡ get_or (fates_to window download es hits (length es)) k 0

-- the numbers that are left alone: all but the fate and the chains of importable records
abbrev pub kept_of : Row → List ℕ
kept_of r =
    get_or r 1 0
    ∷ get_or r 4 0 ∷ get_or r 5 0 ∷ get_or r 6 0 ∷ get_or r 7 0 ∷ get_or r 8 0 ∷ get_or r 9 0 ∷ get_or r 10 0 ∷ get_or r 11 0 ∷ get_or r 12 0 ∷ get_or r 13 0
    ∷ get_or r 14 0 ∷ get_or r 15 0 ∷ get_or r 16 0 ∷ get_or r 17 0 ∷ get_or r 18 0 ∷ get_or r 19 0 ∷ get_or r 20 0 ∷ get_or r 21 0
    ∷ get_or r 22 0 ∷ get_or r 23 0 ∷ get_or r 24 0 ∷ get_or r 25 0 ∷ get_or r 26 0 ∷ get_or r 27 0
    ∷ []

-- the first n rows keep them, and those behind are as they were
pub record Kept (n : ℕ) (rows rows' : List Row) : Type 0 where
  pub lengths : length rows' ≡ length rows
  pub kept : (j : ℕ) → kept_of (get_or rows' j []) ≡ kept_of (get_or rows j [])
  pub behind : drop n rows' ≡ drop n rows
