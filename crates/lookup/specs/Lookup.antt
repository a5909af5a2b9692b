-- For each contact of another list, the first contact of the list that it matches.
use Rattle.refusals.specs.declared.Refusal.{Refusal}
use Rattle.contacts.specs.declared.Mark.{Mark}
use Rattle.std.specs.Prelude.{ℕ, zero, suc, ◌-◌, ◌<◌, List, [], ◌∷◌, ◌++◌, map, replicate, ltb, Result, Ok, Err}
use Rattle.text.specs.Pick.{pick}
use Rattle.refusals.specs.declared.Refusal.TheVariants.{ShortTable}
use Rattle.contacts.specs.Contacts.{Contact, call_of, band_of, mode_of}
use Rattle.contacts.specs.Lists.{end_at, contact_at, listed_as, contacts_of}
use Rattle.index.specs.Rows.{Row}
use Rattle.indexing.specs.Index.{indexed_as, index_by, Sound}
use Rattle.search.specs.Search.{moment_in, first_match, Indexed}

abbrev pub match_for : List ℕ → ℕ → Contact → ℕ
match_for s limit c = first_match (call_of c) (mode_of c) (band_of c) (moment_in c) limit (contacts_of s)

-- the refusals of the first list and of the index, those of the other list, then 19; else the other list's mark
unfoldable pub searched_by : ℕ → Result Mark Refusal → Result Mark Refusal → Result Mark Refusal
searched_by room (Err why) other = Err why
searched_by room (Ok m) (Err why) = Err why
searched_by room (Ok m) (Ok m') = pick (ltb room m'.contacts) (Err ShortTable) (Ok m')

unfoldable pub searched_as : List ℕ → List ℕ → ℕ → ℕ → Result Mark Refusal
searched_as s other m room = searched_by room (indexed_as s m) (listed_as other)

-- how many of the index's records are cleared: all after a refusal, else none
unfoldable pub gone_of : Result Mark Refusal → ℕ → ℕ
gone_of (Ok m') m = 0
gone_of (Err why) m = m

-- what is left in the index: zero throughout after any refusal
unfoldable pub index_left : List ℕ → List ℕ → ℕ → ℕ → List Row
index_left s other m room = index_by (searched_as s other m room) s m

-- the numbers of the matches at the front, 0 for none, and zero behind them; zero throughout after a refusal
unfoldable pub found_by : Result Mark Refusal → List ℕ → ℕ → List ℕ → ℕ → List ℕ
found_by (Err why) s limit other room = replicate room 0
found_by (Ok m) s limit other room = map (match_for s limit) (contacts_of other) ++ replicate (room - m.contacts) 0

unfoldable pub found_after : List ℕ → ℕ → List ℕ → ℕ → ℕ → List ℕ
found_after s limit other m room = found_by (searched_as s other m room) s limit other room

-- the matches of k contacts of the other list, from a place on
unfoldable pub matches_from : List ℕ → ℕ → List ℕ → ℕ → ℕ → List ℕ
matches_from s limit other zero at = []
matches_from s limit other (suc k) at = match_for s limit (contact_at other at) ∷ matches_from s limit other k (end_at other at)

-- what looking up k contacts of the other list asks for, if there is one: the index of n contacts, and a list with as many as k
unfoldable pub Asks : List ℕ → ℕ → List Row → List ℕ → ℕ → Type 0
Asks s n rows other k = 0 < k → Indexed s n rows × Sound other k
