-- When two contacts have the same call, mode and band: four tests, which differ in what they trim. The case of a call's letters never
-- counts, that of a mode and a band always does.
use Rattle.std.specs.Prelude.{ℕ, Bool, List, ℤ, Option}
use Rattle.text.specs.Pick.{both}
use Rattle.text.specs.Space.{trimmed}
use Rattle.letters.specs.Same.{same, same_raised}
use Rattle.times.specs.Window.{is_within}

module _ (call mode band : List ℕ) (call' mode' band' : List ℕ) where
  -- the match in the log: nothing is trimmed
  unfoldable pub in_log : Bool
  in_log = both (same_raised call call') (both (same mode mode') (same band band'))

  -- the match in the file: all is trimmed
  unfoldable pub in_file : Bool
  in_file = both (same_raised (trimmed call) (trimmed call')) (both (same (trimmed mode) (trimmed mode')) (same (trimmed band) (trimmed band')))

  -- rigflow's natural key: the second contact's call is trimmed, and nothing else
  unfoldable pub natural_key : Bool
  natural_key = both (same_raised call (trimmed call')) (both (same mode mode') (same band band'))

  -- confirmations that match no contact: both calls are trimmed, and nothing else
  unfoldable pub unmatched : Bool
  unmatched = both (same_raised (trimmed call) (trimmed call')) (both (same band band') (same mode mode'))

  -- a duplicate has the same natural key, within the window
  unfoldable pub duplicate : Option ℕ → Option ℕ → ℤ → Bool
  duplicate at at' window = both natural_key (is_within at at' window)
