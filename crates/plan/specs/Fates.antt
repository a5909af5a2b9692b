-- The fate of each record. 1 importable, 2 duplicate in the log, 3 duplicate of an earlier importable record, 4 unusable, 5 confirmed,
-- 6 unmatched, 7 ignored.
use Rattle.std.specs.Prelude.{Bool, false, List, [], ◌∷◌, ◌++◌, ℕ, zero, suc, ℤ, eqb, ltb, get_or}
use Rattle.text.specs.Pick.{pick, both, either}
use Rattle.times.specs.Moments.{moment_of}
use Rattle.times.specs.Window.{is_within}
use Rattle.dedupe.specs.Keys.{in_log, in_file}
use Rattle.contacts.specs.Contacts.{Contact, call_of, date_of, time_of, band_of, mode_of}
use Rattle.chain.specs.Chain.{any, col}
use Rattle.search.specs.Search.{first_from}
use Rattle.confirmations.specs.declared.Answer.{Answer}
use Rattle.plan.specs.Entry.{Entry, no_entry}

-- ---- the log match: the untrimmed call, ASCII case aside, exact mode and band, within the window
unfoldable pub matches : ℤ → Entry → Contact → Bool
matches window e c =
    both (in_log e.call e.mode e.band (call_of c) (mode_of c) (band_of c)) (is_within e.moment (moment_of (date_of c) (time_of c)) window)

-- the first match, by its number in the list, which is in the order of ids; 0 where there is none
unfoldable pub found : ℤ → List Contact → Entry → ℕ
found window contacts e = first_from (matches window e) 0 contacts

-- ---- one record: the first fate that applies
unfoldable pub fate_of : ℕ → Bool → Bool → Bool → Bool → ℕ
fate_of reason bears matched download repeated =
    pick (ltb 0 reason) 4
    (pick bears (pick matched 5 6)
    (pick download 7
    (pick matched 2
    (pick repeated 3 1))))

-- it bears a confirmation
abbrev pub bears_any : List Answer → Bool
bears_any [] = false
bears_any (a ∷ rest) = either a.present (bears_any rest)

-- ---- the records in order, each with the number of the contact that it found
module _ (window : ℤ) (download : Bool) (entries : List Entry) (hits : List ℕ) where
  abbrev pub entry : ℕ → Entry
  entry k = get_or entries k no_entry

  abbrev pub hit : ℕ → ℕ
  hit k = get_or hits k 0

  -- records j and k have the same call, mode and band, all trimmed, within the window
  unfoldable pub repeats : ℕ → ℕ → Bool
  repeats j k =
      both (in_file (entry j).call (entry j).mode (entry j).band (entry k).call (entry k).mode (entry k).band) (is_within (entry j).moment (entry k).moment window)

  -- an earlier record that is importable does so with record k
  abbrev pub repeated : (ℕ → ℕ) → ℕ → Bool
  repeated fate k = any (λ j. both (eqb (fate j) 1) (repeats j k)) k

  -- the fate of record k, by the fates of those before it
  unfoldable pub fate_at : (ℕ → ℕ) → ℕ → ℕ
  fate_at fate k = fate_of (entry k).reason (bears_any (entry k).answers) (ltb 0 (hit k)) download (repeated fate k)

  -- the fates of the first k records
  unfoldable pub fates_to : ℕ → List ℕ
  fates_to zero = []
  fates_to (suc k) = fates_to k ++ (fate_at (λ j. get_or (fates_to k) j 0) k ∷ [])

-- ---- how many of the fates are f
unfoldable pub count : ℕ → List ℕ → ℕ
count f [] = 0
count f (x ∷ xs) = pick (eqb x f) (suc (count f xs)) (count f xs)

-- ---- the fates as a lent table keeps them: a row a record, whose first number is its fate; of the first k records
unfoldable pub fates_in : List (List ℕ) → ℕ → List ℕ
fates_in rows zero = []
fates_in rows (suc k) = fates_in rows k ++ (col rows k 0 ∷ [])
