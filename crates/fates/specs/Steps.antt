-- What settling one record does to the rows of a plan.
use Rattle.std.specs.Prelude.{ℕ, ◌+◌, ◌≡◌, Bool, List, [], length, get_or, set, drop, ltb}
use Rattle.chain.specs.Chain.{col}
use Rattle.plan.specs.Fates.{fate_of}
use Rattle.entries.specs.Row.{Row, with_number}
use Rattle.infile.specs.Infile.{repeated_in, Chained}
use Rattle.fates.specs.Fated.{kept_of}

-- the fate of row k, by what it found and by the fates of the rows before it
unfoldable pub fate_in : List ℕ → ℕ → Bool → List Row → ℕ → ℕ
fate_in text limit download rows k =
    fate_of (col rows k 1) (ltb 0 (col rows k 23)) (ltb 0 (col rows k 22)) download (repeated_in text limit rows k)

-- a row with another fate
abbrev pub with_fate : Row → ℕ → Row
with_fate r fate = with_number r 0 fate

unfoldable pub fated : List Row → ℕ → ℕ → List Row
fated rows k fate = set rows k (with_fate (get_or rows k []) fate)

-- row k of n is settled, and the chains have it if it is importable; all else is as it was
pub record Step (text : List ℕ) (limit : ℕ) (download : Bool) (n k : ℕ) (rows rows' : List Row) : Type 0 where
  pub fate : col rows' k 0 ≡ fate_in text limit download rows k
  pub fates : (j : ℕ) → (j ≡ k → ⊥) → col rows' j 0 ≡ col rows j 0
  pub kept : (j : ℕ) → kept_of (get_or rows' j []) ≡ kept_of (get_or rows j [])
  pub lengths : length rows' ≡ length rows
  pub behind : drop n rows' ≡ drop n rows
  pub chained : Chained text n (k + 1) rows'
