-- What `showplan` prints of a text: the plan against an empty list at 1800 seconds, in tables of 3,000 rows and an index of one record.
use Rattle.refusals.specs.declared.Refusal.{Refusal}
use Rattle.planner.specs.declared.Planned.{Planned}
use Rattle.std.specs.Prelude.{false, List, [], ◌∷◌, ℕ, ℤ, pos, leb, length, Result, Ok, Err}
use Rattle.text.specs.Pick.{pick}
use Rattle.planner.specs.Planning
use Rattle.planner.specs.Planning.{Asked, planned_as, index_by, fates_by, PlannedTo}
use Rattle.show.specs.Shown.{plan_text, refused_text, too_long_text}

abbrev pub records_in : Result Planned Refusal → ℕ
records_in (Ok p) = p.records
records_in (Err why) = 0

-- the plan line by line, over the table of its fates; or why it is refused
unfoldable pub shown_text : List (List ℕ) → Result Planned Refusal → List ℕ
shown_text rows (Ok p) = plan_text rows p.records p.confirmations p.already p.unmatched
shown_text rows (Err why) = refused_text why

-- a list of version 1 with no contact; a row of the reader's table has five numbers
abbrev pub asked_of : List ℕ → Asked
asked_of text = record {
  text = text;
  list = 1 ∷ 0 ∷ 0 ∷ 0 ∷ 0 ∷ [];
  window = pos 1800;
  download = false;
  numbers = 15000;
  contacts = 1;
  records = 3000;
  confirmations = 3000;
}

-- a plan of whose index, of one record, nothing is kept
abbrev pub asked_in : List ℕ → List ℕ → ℤ → List ℕ → List (List ℕ) → List (List ℕ) → Asked
asked_in text list window table fates cards = Planning.asked_of text list window false (length table) 1 (length fates) (length cards)

abbrev pub PlannedIn : List ℕ → List ℕ → ℤ → List ℕ → List (List ℕ) → List (List ℕ) → Result Planned Refusal → List ℕ → List (List ℕ) → List (List ℕ) → Type 0
PlannedIn text list window table fates cards r table' fates' cards' =
    PlannedTo (asked_in text list window table fates cards) r table' (index_by (asked_in text list window table fates cards) (planned_as (asked_in text list window table fates cards))) fates' cards'

unfoldable pub printed : List ℕ → List ℕ
printed text =
    pick (leb (length text) 49152)
    (shown_text (fates_by (asked_of text) (planned_as (asked_of text))) (planned_as (asked_of text)))
    too_long_text
