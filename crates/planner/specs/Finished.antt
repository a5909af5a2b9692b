-- What comes of a reading: the refusal, with the tables as they were; else the plan of its records, or 19 and nothing in any table where the
-- confirmations find no room.
use Rattle.refusals.specs.declared.Refusal.{Refusal}
use Rattle.reader.specs.declared.Reading.{Reading}
use Rattle.contacts.specs.declared.Mark.{Mark}
use Rattle.planner.specs.declared.Planned.{Planned}
use Rattle.std.specs.Prelude.{ℕ, ◌≡◌, Bool, List, map, ℤ, leb, length, replicate, Result, Ok, Err}
use Rattle.text.specs.Pick.{pick}
use Rattle.refusals.specs.declared.Refusal.TheVariants.{ShortTable}
use Rattle.reader.specs.Table.{zeros}
use Rattle.indexing.specs.Index.{count_in}
use Rattle.plan.specs.Plan.{Plan}
use Rattle.entries.specs.Row.{Row, no_row}
use Rattle.plan.specs.Cards.{card_row, no_card}
use Rattle.closing.specs.Phases.{Searched, plan_read}
use Rattle.closing.specs.Closed.{fate_rows, padded}
use Rattle.planner.specs.Planning.{made}

unfoldable pub largest_in : Result Mark Refusal → ℕ
largest_in (Ok m) = m.largest
largest_in (Err why) = 0

-- how many of the index's records are cleared
unfoldable pub gone_of : Result Planned Refusal → ℕ → ℕ
gone_of (Ok p) m = 0
gone_of (Err why) m = m

-- records that were read are looked up, and no confirmation is recorded yet
unfoldable pub Ready : List ℕ → List ℕ → ℤ → Result Reading Refusal → List ℕ → List Row → List (List ℕ) → Type 0
Ready text list window (Ok r) table fates cards = Searched text list table window r.records fates × (cards ≡ replicate (length cards) no_card)
Ready text list window (Err why) table fates cards = Unit {0}

unfoldable pub finished_as : Plan → Result Mark Refusal → ℕ → Result Reading Refusal → Result Planned Refusal
finished_as p listed room (Err why) = Err why
finished_as p listed room (Ok r) = pick (leb (length p.confirmations) room) (made p r.records r.rows (count_in listed) (largest_in listed)) (Err ShortTable)

-- by the reading and the answer
unfoldable pub finished_table : List ℕ → Result Reading Refusal → Result Planned Refusal → List ℕ
finished_table table (Err why) r = table
finished_table table (Ok r) (Ok p) = table
finished_table table (Ok r) (Err why) = zeros (length table)

unfoldable pub finished_fates : Plan → List Row → Result Reading Refusal → Result Planned Refusal → List Row
finished_fates p fates (Err why) r = fates
finished_fates p fates (Ok r) (Ok p') = padded (fate_rows p.fates p.reasons) no_row (length fates)
finished_fates p fates (Ok r) (Err why) = replicate (length fates) no_row

unfoldable pub finished_cards : Plan → List (List ℕ) → Result Reading Refusal → Result Planned Refusal → List (List ℕ)
finished_cards p cards (Err why) r = cards
finished_cards p cards (Ok r) (Ok p') = padded (map card_row p.confirmations) no_card (length cards)
finished_cards p cards (Ok r) (Err why) = replicate (length cards) no_card

pub record Finished (text list : List ℕ) (window : ℤ) (download : Bool) (listed : Result Mark Refusal) (reading : Result Reading Refusal) (table : List ℕ) (fates cards : List (List ℕ)) (r : Result Planned Refusal) (table' : List ℕ) (fates' cards' : List (List ℕ)) : Type 0 where
  pub answer : r ≡ finished_as (plan_read text list window download table) listed (length cards) reading
  pub tabled : table' ≡ finished_table table reading r
  pub fated : fates' ≡ finished_fates (plan_read text list window download table) fates reading r
  pub carded : cards' ≡ finished_cards (plan_read text list window download table) cards reading r
