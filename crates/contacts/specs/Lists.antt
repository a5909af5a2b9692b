-- Which byte strings are contact lists, and what each says; why the others are refused. An entry is read from its place on: a byte past
-- the end counts as 0, and an entry that reaches past the end is none.
use Rattle.refusals.specs.declared.Refusal.{Refusal}
use Rattle.contacts.specs.declared.Mark.{Mark}
use Rattle.std.specs.Prelude.{◌≡◌, Bool, true, List, [], ◌∷◌, ℕ, zero, suc, ◌+◌, ◌*◌, ◌≤◌, ◌<◌, length, get_or, take, drop, eqb, leb, ltb, Result, Ok, Err}
use Rattle.text.specs.Pick.{pick, both}
use Rattle.refusals.specs.declared.Refusal.TheVariants.{TooLong, OtherVersion, MalformedList, IdsNotRising}
use Rattle.contacts.specs.Contacts.{Contact, contact, sound, sound_from, list_text}
use Rattle.contacts.specs.declared.Freshness.{Freshness}
use Rattle.contacts.specs.declared.Freshness.TheVariants

-- ---- by concatenation, with no places: the list that these contacts make, if they may stand in one
pub record Says (list : List ℕ) (contacts : List Contact) : Type 0 where
  pub short : length list ≤ 16777216
  pub written : list ≡ list_text contacts
  pub all_sound : sound_from 0 contacts ≡ true

-- ---- by places
-- the number of the k bytes from `at` on
unfoldable pub number_at : List ℕ → ℕ → ℕ → ℕ
number_at s at zero = 0
number_at s at (suc k) = number_at s at k * 256 + get_or s (at + k) 0

-- the text whose length byte is at p, and the place after it
unfoldable pub text_at : List ℕ → ℕ → List ℕ
text_at s p = take (get_or s p 0) (drop (p + 1) s)

unfoldable pub after : List ℕ → ℕ → ℕ
after s p = p + 1 + get_or s p 0

-- where the texts of the entry at `at` have their length bytes, and where the entry ends
unfoldable pub call_at : ℕ → ℕ
call_at at = at + 11

unfoldable pub date_at : List ℕ → ℕ → ℕ
date_at s at = after s (call_at at)

unfoldable pub time_at : List ℕ → ℕ → ℕ
time_at s at = after s (date_at s at)

unfoldable pub band_at : List ℕ → ℕ → ℕ
band_at s at = after s (time_at s at)

unfoldable pub mode_at : List ℕ → ℕ → ℕ
mode_at s at = after s (band_at s at)

unfoldable pub end_at : List ℕ → ℕ → ℕ
end_at s at = after s (mode_at s at)

unfoldable pub id_at : List ℕ → ℕ → ℕ
id_at s at = number_at s (at + 2) 8

unfoldable pub services_at : List ℕ → ℕ → ℕ
services_at s at = get_or s (at + 10) 0

unfoldable pub contact_at : List ℕ → ℕ → Contact
contact_at s at =
    contact (id_at s at) (services_at s at) (text_at s (call_at at)) (text_at s (date_at s at)) (text_at s (time_at s at)) (text_at s (band_at s at)) (text_at s (mode_at s at))

-- the lengths come out exactly
unfoldable pub fits : List ℕ → ℕ → Bool
fits s at = both (leb (end_at s at) (length s)) (eqb (at + 2 + number_at s at 2) (end_at s at))

unfoldable pub good_at : List ℕ → ℕ → Bool
good_at s at = both (fits s at) (sound (contact_at s at))

-- k entries of n, from `at` on, after the id `last`: entry by entry 17 and 18, and 17 where they do not end with the list
unfoldable pub entries_from : List ℕ → ℕ → ℕ → ℕ → ℕ → Result Mark Refusal
entries_from s n zero at last = pick (eqb at (length s)) (Ok (record { contacts = n; largest = last })) (Err MalformedList)
entries_from s n (suc k) at last =
    pick (good_at s at)
    (pick (ltb last (id_at s at)) (entries_from s n k (end_at s at) (id_at s at)) (Err IdsNotRising))
    (Err MalformedList)

-- how many contacts the list says it has
unfoldable pub count_of : List ℕ → ℕ
count_of s = number_at s 1 4

-- the list's mark, or why it is none: 1, 17 where it is empty, 16, 17 where it has no whole count, then the entries
unfoldable pub listed_as : List ℕ → Result Mark Refusal
listed_as s =
    pick (ltb 16777216 (length s)) (Err TooLong)
    (pick (eqb (length s) 0) (Err MalformedList)
    (pick (eqb (get_or s 0 0) 1)
    (pick (ltb (length s) 5) (Err MalformedList) (entries_from s (count_of s) (count_of s) 5 0))
    (Err OtherVersion)))

-- a count has 32 bits
abbrev pub Few : Result Mark Refusal → Type 0
Few (Ok m) = m.contacts < 4294967296
Few (Err why) = Unit

-- the contacts of k entries from `at` on; of a list
unfoldable pub contacts_from : List ℕ → ℕ → ℕ → List Contact
contacts_from s zero at = []
contacts_from s (suc k) at = contact_at s at ∷ contacts_from s k (end_at s at)

unfoldable pub contacts_of : List ℕ → List Contact
contacts_of s = contacts_from s (count_of s) 5

-- ---- whether a plan with this mark is fresh against a list: exactly if the list's mark is the same
unfoldable pub fresh_by : ℕ → ℕ → Result Mark Refusal → Result Freshness Refusal
fresh_by count top (Ok m') = Ok (pick (both (eqb count m'.contacts) (eqb top m'.largest)) TheVariants.Fresh TheVariants.Stale)
fresh_by count top (Err why) = Err why

unfoldable pub fresh_against : ℕ → ℕ → List ℕ → Result Freshness Refusal
fresh_against count top s = fresh_by count top (listed_as s)
