-- A plan answered in numbers: its counts come from the fates in the rows. Assumes nothing.
use Rattle.std.specs.Prelude.{Result, Ok, Err}
use Rattle.planner.specs.declared.Planned.{Planned}
use mathlib.Core.Path.{◌≡◌, refl, ap, ◌∙◌}
use mathlib.Core.List.{List}
use Prim.Native.Nat.{ℕ, ◌≤◌}
use lib.ListN.{length}
use Rattle.refusals.specs.declared.Refusal.{Refusal}
use Rattle.summary.specs.declared.Counts.{Counts}
use Rattle.plan.specs.Fates.{fates_in}
use Rattle.plan.specs.Plan.{counts_with, counts_of}
use Rattle.planner.specs.Planning.{Asked, read_of, plan_for, planned_as, PlannedTo}
use Rattle.planner.proofs.AnswerLaws.{made_within, made_few, made_counts}
use Rattle.ox_import.specs.Plans.{unplanned_of, of_planned, counts_in, plan_answer, InRows}
use Rattle.ox_import.specs.declared.PlanAnswer.{PlanAnswer}

-- the rows hold its records
rows_hold : (a : Asked) (r : Result Planned Refusal) (table : List ℕ) (index fates cards : List (List ℕ)) → PlannedTo a r table index fates cards → InRows r fates
unfolding InRows
rows_hold a (Ok p) table index fates cards K =
    (made_within a p.records p.rows p.confirmations p.already p.unmatched p.contacts p.largest table index fates cards K, made_few a p.records p.rows p.confirmations p.already p.unmatched p.contacts p.largest table index fates cards K)
rows_hold a (Err why) table index fates cards K = tt

counts_hold : (a : Asked) (r : Result Planned Refusal) (table : List ℕ) (index fates cards : List (List ℕ)) → PlannedTo a r table index fates cards → of_planned r (counts_in r fates) ≡ of_planned r (counts_of (plan_for a (read_of a)))
unfolding of_planned counts_in
counts_hold a (Ok p) table index fates cards K =
    ap (of_planned (Ok p)) (made_counts a p.records p.rows p.confirmations p.already p.unmatched p.contacts p.largest table index fates cards K)
counts_hold a (Err why) table index fates cards K = refl

module _ (a : Asked) (r : Result Planned Refusal) (table : List ℕ) (index fates cards : List (List ℕ)) (K : PlannedTo a r table index fates cards) where
  pub in_rows : InRows r fates
  in_rows = rows_hold a r table index fates cards K

  pub answer_is : (x : PlanAnswer) → x ≡ of_planned r (counts_in r fates) → x ≡ plan_answer a
  unfolding plan_answer
  answer_is x e = e ∙ counts_hold a r table index fates cards K ∙ ap (λ (p : Result Planned Refusal). of_planned p (counts_of (plan_for a (read_of a)))) K.answer

  pub same_plan : PlannedTo a (planned_as a) table index fates cards
  same_plan = rw K.answer at K

-- ---- one answer
module _ (p : Result Planned Refusal) (fates : List (List ℕ)) (x : Planned) (e : p ≡ Ok x) where
  pub in_made : InRows p fates → (x.records ≤ length fates) × (x.records ≤ 65535)
  unfolding InRows
  in_made h = rw e at h

  pub planned_made : (counts : Counts) → counts ≡ counts_with (fates_in fates x.records) x.confirmations x.already x.unmatched
      → (record { refusal = 0; place = 0; name = 0; name_length = 0; wanted = 0; left = 0; records = x.records; rows = x.rows; confirmations = x.confirmations; contacts = x.contacts; largest = x.largest; counts = counts }) ≡ of_planned p (counts_in p fates)
  unfolding of_planned counts_in
  planned_made counts ec = rw (e, ec) refl

pub planned_refused : (p : Result Planned Refusal) (fates : List (List ℕ)) (why : Refusal) (x : PlanAnswer) → p ≡ Err why → x ≡ unplanned_of why → x ≡ of_planned p (counts_in p fates)
unfolding of_planned
planned_refused p fates why x e ex = rw e ex
