-- The first contact of the log that a record matches: as untrimmed call, ASCII case aside, exact mode and band, within the window.
use Rattle.std.specs.Prelude.{ℕ, zero, suc, ◌≡◌, Bool, false, List, [], ◌∷◌, length, ltb, Option, Some, None, Ok}
use Rattle.text.specs.Pick.{pick, both}
use Rattle.tables.specs.Place.{bytes}
use Rattle.times.specs.Moments.{moment_of}
use Rattle.times.specs.Window.{apart}
use Rattle.contacts.specs.Contacts.{Contact, call_of, date_of, time_of, band_of, mode_of}
use Rattle.contacts.specs.Lists.{end_at, contacts_of}
use Rattle.index.specs.Rows.{Row}
use Rattle.indexing.specs.Index.{indexed_as, index_after}
use Rattle.dedupe.specs.Keys.{in_log}
use Rattle.wanted.specs.declared.Wanted.{Wanted}
use Rattle.search.specs.declared.Hit.{Hit}

-- the limit is one more than the window, and 0 where the window is below zero: `limit_of` of `times`, with which this is `is_within`
unfoldable pub near : Option ℕ → Option ℕ → ℕ → Bool
near None b limit = false
near (Some x) None limit = false
near (Some x) (Some y) limit = ltb (apart x y) limit

unfoldable pub moment_in : Contact → Option ℕ
moment_in c = moment_of (date_of c) (time_of c)

unfoldable pub matches : List ℕ → List ℕ → List ℕ → Option ℕ → ℕ → Contact → Bool
matches call mode band moment limit c =
    both (in_log call mode band (call_of c) (mode_of c) (band_of c)) (near moment (moment_in c) limit)

-- the first contact that passes, by its number, those before it being k; 0 where none does. A list has its contacts in the order of
-- their ids
unfoldable pub first_from : (Contact → Bool) → ℕ → List Contact → ℕ
first_from passes k [] = 0
first_from passes k (c ∷ cs) = pick (passes c) (suc k) (first_from passes (suc k) cs)

unfoldable pub first_match : List ℕ → List ℕ → List ℕ → Option ℕ → ℕ → List Contact → ℕ
first_match call mode band moment limit cs = first_from (matches call mode band moment limit) 0 cs

-- of what is wanted over a text
abbrev pub first_for : List ℕ → Wanted → ℕ → List ℕ → ℕ
first_for text w limit s = first_match (bytes text w.key.call) (bytes text w.key.mode) (bytes text w.key.band) w.moment limit (contacts_of s)

-- where the entry of a contact stands: i entries from `at` on; by its number, from 1, and 0 for none
abbrev pub place_from : List ℕ → ℕ → ℕ → ℕ
place_from s zero at = at
place_from s (suc i) at = place_from s i (end_at s at)

unfoldable pub place_of : List ℕ → ℕ → ℕ
place_of s zero = 0
place_of s (suc i) = place_from s i 5

abbrev pub hit : ℕ → ℕ → Hit
hit number place = record { number = number; place = place }

abbrev pub hit_of : List ℕ → ℕ → Hit
hit_of s number = hit number (place_of s number)

-- the index was built of the list, which has n contacts
unfoldable pub Indexed : List ℕ → ℕ → List Row → Type 0
Indexed s n rows = (top : ℕ) × (indexed_as s (length rows) ≡ Ok (record { contacts = n; largest = top })) × (rows ≡ index_after s (length rows))
