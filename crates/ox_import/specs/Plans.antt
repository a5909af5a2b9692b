-- The answers of the calls that plan and that sum a plan up, as numbers.
use Rattle.planner.specs.declared.Planned.{Planned}
use Rattle.std.specs.Prelude.{ℕ, ◌≤◌, List, length, Result, Ok, Err}
use Rattle.refusals.specs.Refusals.{number_of, place_of, name_of, name_length_of, wanted_of, left_of}
use Rattle.refusals.specs.declared.Refusal.{Refusal}
use Rattle.summary.specs.declared.Counts.{Counts}
use Rattle.plan.specs.Fates.{fates_in}
use Rattle.plan.specs.Plan.{counts_with, counts_of}
use Rattle.planner.specs.Planning.{Asked, read_of, plan_for, planned_as}
use Rattle.ox_import.specs.declared.PlanAnswer.{PlanAnswer}
use Rattle.ox_import.specs.declared.LineAnswer.{LineAnswer}

abbrev pub no_counts : Counts
no_counts = record { total = 0; importable = 0; confirmations = 0; already_confirmed = 0; duplicates = 0; unmatched = 0; unusable = 0 }

unfoldable pub unplanned_of : Refusal → PlanAnswer
unplanned_of why =
    record {
      refusal = number_of why;
      place = place_of why;
      name = name_of why;
      name_length = name_length_of why;
      wanted = wanted_of why;
      left = left_of why;
      records = 0;
      rows = 0;
      confirmations = 0;
      contacts = 0;
      largest = 0;
      counts = no_counts;
    }

-- with what it counts
unfoldable pub of_planned : Result Planned Refusal → Counts → PlanAnswer
of_planned (Ok p) counts =
    record {
      refusal = 0;
      place = 0;
      name = 0;
      name_length = 0;
      wanted = 0;
      left = 0;
      records = p.records;
      rows = p.rows;
      confirmations = p.confirmations;
      contacts = p.contacts;
      largest = p.largest;
      counts = counts;
    }
of_planned (Err why) counts = unplanned_of why

-- the counts come from the fates
unfoldable pub counts_in : Result Planned Refusal → List (List ℕ) → Counts
counts_in (Ok p) fates = counts_with (fates_in fates p.records) p.confirmations p.already p.unmatched
counts_in (Err why) fates = no_counts

unfoldable pub plan_answer : Asked → PlanAnswer
plan_answer a = of_planned (planned_as a) (counts_of (plan_for a (read_of a)))

-- the rows hold the records that the answer says
unfoldable pub InRows : Result Planned Refusal → List (List ℕ) → Type 0
InRows (Ok p) fates = (p.records ≤ length fates) × (p.records ≤ 65535)
InRows (Err why) fates = Unit {0}

unfoldable pub of_line : Result ℕ Refusal → LineAnswer
of_line (Ok n) = record { refusal = 0; length = n }
of_line (Err why) = record { refusal = number_of why; length = 0 }
