-- Whether a service counted before, by the rows of a plan. A record at which one counts goes into the chain of its code, and no other
-- does, so that a chain has at most four records of one contact, or of one call, band and mode.
use Rattle.std.specs.Prelude.{ℕ, suc, ◌%◌, ◌≤◌, ◌<◌, ◌≡◌, Bool, List, [], length, get_or, set, eqb, ltb}
use Rattle.text.specs.Pick.{pick, both}
use Rattle.tables.specs.Place.{bytes}
use Rattle.chain.specs.Chain.{any, col, Linked}
use Rattle.dedupe.specs.Views.{keys_unmatched}
use Rattle.plan.specs.Confirmed.{has_bit}
use Rattle.entries.specs.Row.{Row, call_in, mode_in, band_in, key_in, file_code, with_number}

-- two records confirm the same thing: one contact, or, where both are unmatched, one call, band and mode
unfoldable pub rows_alike : List ℕ → Row → Row → Bool
rows_alike text r s =
    both (eqb (get_or r 0 0) (get_or s 0 0)) (pick (eqb (get_or s 0 0) 5) (eqb (get_or r 22 0) (get_or s 22 0)) (keys_unmatched text (key_in r) text (key_in s)))

-- the same, told from the codes where these differ
unfoldable pub keys_tested : List ℕ → Row → Row → Bool
keys_tested text r s = both (eqb (get_or r 4 0) (get_or s 4 0)) (keys_unmatched text (key_in r) text (key_in s))

unfoldable pub rows_tested : List ℕ → Row → Row → Bool
rows_tested text r s =
    both (eqb (get_or r 0 0) (get_or s 0 0)) (pick (eqb (get_or s 0 0) 5) (eqb (get_or r 22 0) (get_or s 22 0)) (keys_tested text r s))

-- a number that such records share
unfoldable pub code_in : Row → ℕ
code_in r = pick (eqb (get_or r 0 0) 5) (get_or r 22 0) (get_or r 4 0)

-- the service counted at an earlier record that confirms what record k does
unfoldable pub seen : List ℕ → List Row → ℕ → ℕ → Bool
seen text rows k s = any (λ j. both (rows_alike text (get_or rows j []) (get_or rows k [])) (has_bit (col rows j 24) s)) k

-- the chain of record j; n for none
abbrev pub bucket_of : List Row → ℕ → ℕ → ℕ
bucket_of rows n j = pick (ltb 0 (col rows j 24)) (code_in (get_or rows j []) % n) n

-- the records before k are in their chains
pub record Marked (text : List ℕ) (n k : ℕ) (rows : List Row) : Type 0 where
  pub room : n ≤ length rows
  pub inside : k < n
  pub links : Linked (bucket_of rows n) n k (λ b. col rows b 25) (λ j. col rows j 26)
  pub coded : (j : ℕ) → j < n → col rows j 4 ≡ file_code (bytes text (call_in (get_or rows j []))) (bytes text (mode_in (get_or rows j []))) (bytes text (band_in (get_or rows j [])))

-- ---- a row with other services and another next, with another head
abbrev pub with_services : Row → ℕ → ℕ → Row
with_services r services next = with_number (with_number r 24 services) 26 next

abbrev pub with_head : Row → ℕ → Row
with_head r v = with_number r 25 v

abbrev pub serviced : List Row → ℕ → ℕ → ℕ → List Row
serviced rows k services next = set rows k (with_services (get_or rows k []) services next)

abbrev pub headed : List Row → ℕ → ℕ → List Row
headed rows b v = set rows b (with_head (get_or rows b []) v)

-- record k with the services that count at it, at the front of chain b
unfoldable pub marked : List Row → ℕ → ℕ → ℕ → List Row
marked rows b k services = headed (serviced rows k services (col rows b 25)) b (suc k)
