-- How the confirmations of the records are counted, one record after the other, and what is asked of the rows.
use Rattle.std.specs.Prelude.{◌≡◌, Bool, not, List, [], ◌∷◌, ℕ, ◌+◌, ◌*◌, ◌%◌, ◌≤◌, ◌<◌, eqb, length, get_or, set}
use Rattle.text.specs.Pick.{pick, both, either}
use Rattle.chain.specs.Chain.{col}
use Rattle.writer.specs.Rows.{rows_from}
use Rattle.contacts.specs.Lists.{count_of}
use Rattle.search.specs.Search.{place_of}
use Rattle.confirmations.specs.Confirmations.{answers_of}
use Rattle.confirmations.specs.declared.Answer.{Answer}
use Rattle.plan.specs.Entry.{Entry}
use Rattle.entries.specs.Row.{Row, date_in}
use Rattle.entries.specs.Filled.{Said, Answered}
use Rattle.counted.specs.Counted.{code_in, seen, Marked, marked}
use Rattle.tallies.specs.Tallies.{target_of, is_new, tally_with, card_for, unmarked}
use Rattle.tallies.specs.declared.Tally.{Tally}
use Rattle.tallies.specs.declared.Target.{Target}

-- ---- what the planner hands over: rows of n records whose fates are settled
pub record Settled (text table list : List ℕ) (n : ℕ) (fates : List Row) : Type 0 where
  pub small : length text ≤ 16777216
  pub few : n < 4294967296
  pub hits : (j : ℕ) → j < n → col fates j 22 ≤ count_of list
  pub places : (j : ℕ) → j < n → col fates j 27 ≡ place_of list (col fates j 22)
  pub within : (j : ℕ) → j < n → col fates j 27 ≤ 16777216
  pub services : (j : ℕ) → j < n → col fates j 24 ≡ 0
  pub heads : (j : ℕ) → j < n → col fates j 25 ≡ 0
  pub entries : List Entry
  pub said : Said text n entries fates
  pub answered : Answered text table n entries fates

-- ---- the answers of one record, those that count by the test
module _ (to : Target) (counts : ℕ → Bool) where
  unfoldable pub tally_of : Answer → Tally → Tally
  tally_of a t = pick a.present (tally_with to (counts a.service) a.service t) t

  unfoldable pub cards_of : Answer → ℕ → List (List ℕ) → List (List ℕ)
  cards_of a used cards = pick (both a.present (is_new to (counts a.service) a.service)) (set cards used (card_for to a)) cards

  abbrev pub tally_over : List Answer → Tally → Tally
  tally_over [] t = t
  tally_over (a ∷ rest) t = tally_over rest (tally_of a t)

  abbrev pub cards_over : List Answer → Tally → List (List ℕ) → List (List ℕ)
  cards_over [] t cards = cards
  cards_over (a ∷ rest) t cards = cards_over rest (tally_of a t) (cards_of a t.used cards)

unfoldable pub unseen : List ℕ → List Row → ℕ → ℕ → Bool
unseen text rows k s = not (seen text rows k s)

-- ---- one record
abbrev pub confirms : ℕ → Bool
confirms fate = either (eqb fate 5) (eqb fate 6)

unfoldable pub answers_in : List ℕ → List ℕ → Row → List Answer
answers_in text table r = answers_of text (rows_from table (get_or r 20 0) (get_or r 21 0)) (date_in r)

module _ (text table list : List ℕ) (fates : List Row) (k : ℕ) where
  abbrev pub target_at : Target
  target_at = target_of list (col fates k 0) (col fates k 22) (col fates k 27)

  unfoldable pub tally_at : Tally → Tally
  tally_at t = tally_over target_at (unseen text fates k) (answers_in text table (get_or fates k [])) (unmarked t)

  unfoldable pub cards_at : Tally → List (List ℕ) → List (List ℕ)
  cards_at t cards = cards_over target_at (unseen text fates k) (answers_in text table (get_or fates k [])) (unmarked t) cards

unfoldable pub rows_at : List Row → ℕ → ℕ → ℕ → List Row
rows_at fates n k services = pick (eqb services 0) fates (marked fates (code_in (get_or fates k []) % n) k services)

-- those before it are counted
pub record Ready (text table list : List ℕ) (n k : ℕ) (fates : List Row) (t : Tally) : Type 0 where
  pub small : length text ≤ 16777216
  pub few : n < 4294967296
  pub marked : Marked text n k fates
  pub inside : (col fates k 20 + col fates k 21) * 5 ≤ length table
  pub place : col fates k 27 ≤ 16777216
  pub used : t.used ≤ k * 4
  pub already : t.already ≤ k * 4
  pub unmatched : t.unmatched ≤ k * 4
