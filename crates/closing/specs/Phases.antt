-- What the last phases ask for, and what they leave together before all but fate and reason is wiped from the rows.
use Rattle.cards.specs.declared.Counted.{Counted}
use Rattle.std.specs.Prelude.{ℕ, ◌≤◌, ◌<◌, ◌≡◌, Bool, List, map, ℤ, leb, length, get_or, drop, replicate, Option, Some, None}
use Rattle.std.proofs.lemmas.List.Edits.{sets}
use Rattle.text.specs.Pick.{pick}
use Rattle.chain.specs.Chain.{col}
use Rattle.contacts.specs.Lists.{contacts_of, count_of}
use Rattle.search.specs.Search.{place_of}
use Rattle.plan.specs.Plan.{Plan, planned, hits_of}
use Rattle.entries.specs.Row.{Row, no_row}
use Rattle.entries.specs.Filled.{ReadInto, entries_read, Said, Answered, Bare}
use Rattle.fates.specs.Fated.{Found}
use Rattle.plan.specs.Cards.{card_row}

-- the rows of n records that were read into the table and looked up in the log; behind them zeros
pub record Searched (text list table : List ℕ) (window : ℤ) (n : ℕ) (rows : List Row) : Type 0 where
  pub read : ReadInto text table n
  pub said : Said text n (entries_read text table) rows
  pub answered : Answered text table n (entries_read text table) rows
  pub bare : Bare n rows
  pub hits : Found n (hits_of window (contacts_of list) (entries_read text table)) rows
  pub numbers : (k : ℕ) → k < n → col rows k 22 ≤ count_of list
  pub places : (k : ℕ) → k < n → col rows k 27 ≡ place_of list (col rows k 22)
  pub within : (k : ℕ) → k < n → col rows k 27 ≤ 16777216
  pub behind : drop n rows ≡ drop n (replicate (length rows) no_row)

-- the plan of a text that was read into a table
abbrev pub plan_read : List ℕ → List ℕ → ℤ → Bool → List ℕ → Plan
plan_read text list window download table = planned window download (contacts_of list) (entries_read text table)

abbrev pub counted_by : Plan → ℕ → Option Counted
counted_by p m = pick (leb (length p.confirmations) m) (Some (record { confirmations = length p.confirmations; already = p.already; unmatched = p.unmatched })) None

-- n rows by a plan's fates and reasons, those behind as they were; and the confirmations, where there is room
pub record Recorded (p : Plan) (n : ℕ) (rows cards : List (List ℕ)) (r : Option Counted) (rows' cards' : List (List ℕ)) : Type 0 where
  pub answer : r ≡ counted_by p (length cards)
  pub every_fate : length p.fates ≡ n
  pub every_reason : length p.reasons ≡ n
  pub fates : (k : ℕ) → k < n → col rows' k 0 ≡ get_or p.fates k 0
  pub reasons : (k : ℕ) → k < n → col rows' k 1 ≡ get_or p.reasons k 0
  pub behind : drop n rows' ≡ drop n rows
  pub as_many : length rows' ≡ length rows
  pub as_many_cards : length cards' ≡ length cards
  pub recorded : length p.confirmations ≤ length cards → cards' ≡ sets cards 0 (map card_row p.confirmations)
