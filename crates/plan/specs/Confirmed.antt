-- The confirmations of a plan. They count once per contact and service, as already confirmed where the contact's byte has the service;
-- unmatched ones once per call (trimmed and raised), band, mode and service.
use Rattle.std.specs.Prelude.{Bool, false, not, List, [], ◌∷◌, ◌++◌, ℕ, zero, suc, ◌+◌, ◌/◌, ◌%◌, eqb, length, get_or}
use Rattle.text.specs.Pick.{pick, both, either}
use Rattle.text.specs.Space.{trimmed}
use Rattle.letters.specs.Same.{same, same_raised}
use Rattle.contacts.specs.Contacts.{Contact, contact, id_of, services_of}
use Rattle.chain.specs.Chain.{any}
use Rattle.confirmations.specs.declared.Answer.{Answer}
use Rattle.plan.specs.Entry.{Entry, no_entry}

-- a confirmation to record: the contact's id, the service's bit, where the date stands in the text and how long it is
pub record Confirmation : Type 0 where
  pub id : ℕ
  pub service : ℕ
  pub place : ℕ
  pub len : ℕ

abbrev pub to_record : ℕ → Answer → Confirmation
to_record id a = record { id = id; service = a.service; place = a.date.start; len = a.date.len }

-- bit s of a contact's byte, s one of 1, 2, 4, 8
unfoldable pub has_bit : ℕ → ℕ → Bool
has_bit byte zero = false
has_bit byte (suc s) = eqb (byte / suc s % 2) 1

-- one of the answers is the service's
abbrev pub bears : List Answer → ℕ → Bool
bears [] s = false
bears (a ∷ rest) s = either (both a.present (eqb a.service s)) (bears rest s)

-- the same call, trimmed and raised, band and mode
unfoldable pub same_unmatched : Entry → Entry → Bool
same_unmatched e f = both (same_raised (trimmed e.call) (trimmed f.call)) (both (same e.band f.band) (same e.mode f.mode))

-- those of the answers that are given and pass the test
abbrev pub given : (ℕ → Bool) → List Answer → List Answer
given passes [] = []
given passes (a ∷ rest) = pick (both a.present (passes a.service)) (a ∷ given passes rest) (given passes rest)

abbrev pub recorded : ℕ → List Answer → List Confirmation
recorded id [] = []
recorded id (a ∷ rest) = to_record id a ∷ recorded id rest

-- contact n of the list, counted from 1
abbrev pub no_contact : Contact
no_contact = contact 0 0 [] [] [] [] []

abbrev pub contact_numbered : List Contact → ℕ → Contact
contact_numbered contacts zero = no_contact
contact_numbered contacts (suc n) = get_or contacts n no_contact

-- ---- the records in order, with the number of the contact that each one found, and their fates
module _ (contacts : List Contact) (entries : List Entry) (hits fates : List ℕ) where
  abbrev pub entry : ℕ → Entry
  entry k = get_or entries k no_entry

  abbrev pub hit : ℕ → ℕ
  hit k = get_or hits k 0

  abbrev pub fate : ℕ → ℕ
  fate k = get_or fates k 0

  abbrev pub matched : ℕ → Contact
  matched k = contact_numbered contacts (hit k)

  -- records j and k confirm the same thing: one contact, or, where both are unmatched, one call, band and mode
  unfoldable pub alike : ℕ → ℕ → Bool
  alike j k = both (eqb (fate j) (fate k)) (pick (eqb (fate k) 5) (eqb (hit j) (hit k)) (same_unmatched (entry j) (entry k)))

  -- the service counts at record k: no earlier record that confirms the same thing bears it
  unfoldable pub counts : ℕ → ℕ → Bool
  counts k s = not (any (λ j. both (alike j k) (bears (entry j).answers s)) k)

  -- the answers of record k that count; of those, the ones that its contact has not, and has
  unfoldable pub counted_at : ℕ → List Answer
  counted_at k = given (counts k) (entry k).answers

  unfoldable pub new_at : ℕ → List Answer
  new_at k = given (λ s. not (has_bit (services_of (matched k)) s)) (counted_at k)

  unfoldable pub old_at : ℕ → List Answer
  old_at k = given (has_bit (services_of (matched k))) (counted_at k)

  -- of the first k records: newly confirmed, in order; how many were confirmed already; how many are unmatched
  unfoldable pub new_to : ℕ → List Confirmation
  new_to zero = []
  new_to (suc k) = new_to k ++ pick (eqb (fate k) 5) (recorded (id_of (matched k)) (new_at k)) []

  unfoldable pub already_to : ℕ → ℕ
  already_to zero = 0
  already_to (suc k) = already_to k + pick (eqb (fate k) 5) (length (old_at k)) 0

  unfoldable pub unmatched_to : ℕ → ℕ
  unmatched_to zero = 0
  unmatched_to (suc k) = unmatched_to k + pick (eqb (fate k) 6) (length (counted_at k)) 0
