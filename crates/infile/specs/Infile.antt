-- Rows of a plan that repeat each other, and the chains of those that are importable.
use Rattle.std.specs.Prelude.{ℕ, suc, ◌%◌, ◌≤◌, ◌<◌, ◌≡◌, Bool, List, [], length, get_or, set, eqb}
use Rattle.text.specs.Pick.{pick, both}
use Rattle.tables.specs.Place.{bytes}
use Rattle.dedupe.specs.Views.{keys_in_file}
use Rattle.chain.specs.Chain.{any, col, Linked}
use Rattle.search.specs.Search.{near}
use Rattle.entries.specs.Row.{Row, call_in, mode_in, band_in, key_in, moment_in, file_code, with_number}

-- the same call, mode and band, all trimmed, and nearer than the limit
unfoldable pub alike : List ℕ → ℕ → Row → Row → Bool
alike text limit r s = both (keys_in_file text (key_in r) text (key_in s)) (near (moment_in r) (moment_in s) limit)

-- an earlier row whose fate is 1 is like row k
unfoldable pub repeated_in : List ℕ → ℕ → List Row → ℕ → Bool
repeated_in text limit rows k = any (λ j. both (eqb (col rows j 0) 1) (alike text limit (get_or rows j []) (get_or rows k []))) k

-- ---- the chains, of the first k of n rows: those of fate 1, by the remainder of their code
unfoldable pub code_in : List ℕ → Row → ℕ
code_in text r = file_code (bytes text (call_in r)) (bytes text (mode_in r)) (bytes text (band_in r))

abbrev pub bucket_of : List Row → ℕ → ℕ → ℕ
bucket_of rows n j = pick (eqb (col rows j 0) 1) (col rows j 4 % n) n

pub record Chained (text : List ℕ) (n k : ℕ) (rows : List Row) : Type 0 where
  pub room : n ≤ length rows
  pub codes : (j : ℕ) → j < n → col rows j 4 ≡ code_in text (get_or rows j [])
  pub links : Linked (bucket_of rows n) n k (λ b. col rows b 2) (λ j. col rows j 3)

-- a row with another head, with another next
abbrev pub with_head : Row → ℕ → Row
with_head r v = with_number r 2 v

abbrev pub with_next : Row → ℕ → Row
with_next r v = with_number r 3 v

-- row k goes to the front of chain b
unfoldable pub nexted : List Row → ℕ → ℕ → List Row
nexted rows k v = set rows k (with_next (get_or rows k []) v)

unfoldable pub pushed : List Row → ℕ → ℕ → List Row
pushed rows b k = let r = nexted rows k (col rows b 2) in set r b (with_head (get_or r b []) (suc k))
