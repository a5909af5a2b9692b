-- What the confirmations of a plan come to: those to record, one row each, how many were known already, and how many match no contact.
use Rattle.cards.specs.declared.Counted.{Counted}
use Rattle.std.specs.Prelude.{ℕ, zero, suc, ◌≡◌, List, [], ◌∷◌, ◌++◌, map, leb, length, get_or, drop, Option, Some, None}
use Rattle.std.proofs.lemmas.List.Edits.{sets}
use Rattle.text.specs.Pick.{pick}
use Rattle.chain.specs.Chain.{col}
use Rattle.contacts.specs.Contacts.{Contact}
use Rattle.plan.specs.Entry.{Entry}
use Rattle.plan.specs.Confirmed.{Confirmation, new_to, already_to, unmatched_to}
use Rattle.plan.specs.Cards.{card_row}
use Rattle.plan.specs.Fates.{fates_in}
use Rattle.entries.specs.Row.{Row}

-- the contacts that the first k records found
unfoldable pub hits_in : List Row → ℕ → List ℕ
hits_in rows zero = []
hits_in rows (suc k) = hits_in rows k ++ (col rows k 22 ∷ [])

-- ---- the rows of n records whose fates are settled
module _ (contacts : List Contact) (es : List Entry) (n : ℕ) (rows : List Row) where
  abbrev pub new_in : List Confirmation
  new_in = new_to contacts es (hits_in rows n) (fates_in rows n) n

  abbrev pub already_in : ℕ
  already_in = already_to contacts es (hits_in rows n) (fates_in rows n) n

  abbrev pub unmatched_in : ℕ
  unmatched_in = unmatched_to contacts es (hits_in rows n) (fates_in rows n) n

  -- the answer where there is room for so many confirmations, and what is in them then
  unfoldable pub carded_as : ℕ → Option Counted
  carded_as m = pick (leb (length new_in) m) (Some (record { confirmations = length new_in; already = already_in; unmatched = unmatched_in })) None

  unfoldable pub cards_after : List (List ℕ) → List (List ℕ)
  cards_after cards = sets cards 0 (map card_row new_in)

-- the numbers of a row that are left alone: all but 24 to 26
abbrev pub kept_of : Row → List ℕ
kept_of r =
    get_or r 0 0 ∷ get_or r 1 0 ∷ get_or r 2 0 ∷ get_or r 3 0 ∷ get_or r 4 0 ∷ get_or r 5 0 ∷ get_or r 6 0 ∷ get_or r 7 0 ∷ get_or r 8 0 ∷ get_or r 9 0 ∷ get_or r 10 0
    ∷ get_or r 11 0 ∷ get_or r 12 0 ∷ get_or r 13 0 ∷ get_or r 14 0 ∷ get_or r 15 0 ∷ get_or r 16 0 ∷ get_or r 17 0 ∷ get_or r 18 0 ∷ get_or r 19 0 ∷ get_or r 20 0
    ∷ get_or r 21 0 ∷ get_or r 22 0 ∷ get_or r 23 0 ∷ get_or r 27 0
    ∷ []

pub record Kept (n : ℕ) (rows rows' : List Row) : Type 0 where
  pub lengths : length rows' ≡ length rows
  pub kept : (j : ℕ) → kept_of (get_or rows' j []) ≡ kept_of (get_or rows j [])
  pub behind : drop n rows' ≡ drop n rows
