-- A plan in tables of 3,000 rows has at most as many records, and what is printed of it has room. Assumes nothing.
use Rattle.std.specs.Prelude.{Result, Ok, Err}
use Rattle.contacts.specs.declared.Mark.{Mark}
use Rattle.planner.specs.declared.Planned.{Planned}
use mathlib.Core.Path.{◌≡◌, refl, ap, ◌∙◌}
use mathlib.Core.Bool.{Bool, true, false}
use mathlib.Core.List.{List, ◌++◌}
use Prim.Native.Nat.{ℕ, ◌≤◌, ◌<◌}
use native.Mathlib.Omega.{arith}
use lib.Dec.{leb}
use lib.IntN.{ℤ}
use Rattle.index.specs.Contacts.{plain}
use Rattle.index.specs.declared.Contact.{Contact}
use lib.ListN.{length}
use borrow.Author.Tests.{le-leb, lt-leb, leb-true}
use Rattle.text.specs.Pick.{pick}
use Rattle.output.specs.Put.{Put}
use Rattle.output.proofs.PutLaws.{put_next}
use Rattle.refusals.specs.declared.Refusal.{Refusal}
use Rattle.refusals.specs.declared.Refusal.TheVariants.{ShortTable}
use Rattle.adif.specs.Records.{records, refused, total}
use Rattle.adif.specs.Reading.{RowsRead}
use Rattle.indexing.specs.Index.{indexed_as}
use Rattle.summary.specs.Summary.{summary_text}
use Rattle.plan.specs.Fates.{fates_in}
use Rattle.plan.specs.Plan.{counts_with}
use Rattle.planner.specs.Planning
use Rattle.planner.specs.Planning.{Asked, asked, plan_for, made, planned_read, planned_by, planned_as, fates_by, PlannedTo}
use Rattle.show.specs.Shown.{newline, lines_of, plan_text, refused_text, too_long_text}
use Rattle.show.proofs.LineLaws.{joined_few, lines_few}
use Rattle.show.proofs.PlanLaws.{summary_few, refusal_few}
use Rattle.showplan.specs.Printed.{records_in, shown_text, asked_of, asked_in, PlannedIn, printed}

-- ---- a plan has at most as many records as fates were lent
kept_within : (n m : ℕ) (u : Bool) (p : Result Planned Refusal) → records_in p ≡ n → records_in (pick (leb n m) (pick u p (Err ShortTable)) (Err ShortTable)) ≤ m
kept_within n m u p e = by (leb n m) refl u
  where
    by : (t : Bool) → leb n m ≡ t → (v : Bool) → records_in (pick t (pick v p (Err ShortTable)) (Err ShortTable)) ≤ m
    by true h true = omega (arith, e, leb-true n m h)
    by true h false = omega arith
    by false h v = omega arith

read_within : (a : Asked) (n top : ℕ) (r : RowsRead) → records_in (planned_read a n top r) ≤ a.records
unfolding planned_read made
read_within a n top (refused why) = omega arith
read_within a n top (records rs) =
    kept_within (length rs) a.records (leb (length (plan_for a (records rs)).confirmations) a.confirmations) (made (plan_for a (records rs)) (length rs) (total rs) n top) refl

listed_within : (a : Asked) (l : Result Mark Refusal) → records_in (planned_by a l) ≤ a.records
unfolding planned_by
listed_within a (Err why) = omega arith
listed_within a (Ok m) = read_within a m.contacts m.largest _

records_within : (a : Asked) → records_in (planned_as a) ≤ a.records
unfolding planned_as
records_within a = listed_within a (indexed_as a.list a.contacts)

-- ---- what is printed of a plan
plan_few : (rows : List (List ℕ)) (n confirmations already unmatched : ℕ) → n ≤ 3000 → length (plan_text rows n confirmations already unmatched) ≤ 180269
unfolding plan_text
plan_few rows n confirmations already unmatched h =
    joined_few (lines_of rows n) (summary_text (counts_with (fates_in rows n) confirmations already unmatched) ++ newline) 180000 269
    (omega (arith, lines_few rows n))
    (joined_few (summary_text (counts_with (fates_in rows n) confirmations already unmatched)) newline 268 1 (summary_few (counts_with (fates_in rows n) confirmations already unmatched)) (omega arith))

module _ (rows : List (List ℕ)) (plan : Result Planned Refusal) (r : ℕ) (was now : List ℕ) where
  module _ (p : Planned) (e : plan ≡ Ok p) where
    pub made_put : Put r was now 0 (plan_text rows p.records p.confirmations p.already p.unmatched) → Put r was now 0 (shown_text rows plan)
    unfolding shown_text
    made_put q = rw e q

    pub made_size : records_in plan ≤ length rows → length rows ≤ 3000 → Put r was now 0 (plan_text rows p.records p.confirmations p.already p.unmatched) → r ≤ 196608
    made_size h l q =
        let z : p.records ≤ 3000 = omega (arith, ap records_in e) in
        omega (arith, put_next r was now 0 (plan_text rows p.records p.confirmations p.already p.unmatched) q, plan_few rows p.records p.confirmations p.already p.unmatched z)

  module _ (why : Refusal) (e : plan ≡ Err why) where
    pub refused_put : Put r was now 0 (refused_text why) → Put r was now 0 (shown_text rows plan)
    unfolding shown_text
    refused_put p = rw e p

    pub refused_size : Put r was now 0 (refused_text why) → r ≤ 196608
    refused_size p = omega (arith, put_next r was now 0 (refused_text why) p, refusal_few why)

-- ---- of a text
module _ (text : List ℕ) (r : ℕ) (was now : List ℕ) where
  module _ (h : 49152 < length text) where
    pub too_long_put : Put r was now 0 too_long_text → Put r was now 0 (printed text)
    unfolding printed
    too_long_put p = rw (lt-leb (length text) 49152 h) p

  module _ (h : length text ≤ 49152) (plan : Result Planned Refusal) (fates : List (List ℕ)) (e : plan ≡ planned_as (asked_of text)) (f : fates ≡ fates_by (asked_of text) (planned_as (asked_of text))) where
    pub plan_put : Put r was now 0 (shown_text fates plan) → Put r was now 0 (printed text)
    unfolding printed
    plan_put p = rw (le-leb (length text) 49152 h) (rw (f, e) at p)

pub too_long_size : (r : ℕ) (was now : List ℕ) → Put r was now 0 too_long_text → r ≤ 196608
too_long_size r was now p = omega (arith, put_next r was now 0 too_long_text p)

-- ---- planned
module _ (a : Asked) (plan : Result Planned Refusal) (table : List ℕ) (index fates cards : List (List ℕ)) (p : PlannedTo a plan table index fates cards) where
  pub few_records : a.records ≡ 3000 → records_in plan ≤ 3000
  few_records e = omega (arith, ap records_in p.answer, records_within a)

  pub planned_put : (text : List ℕ) (r : ℕ) (was now : List ℕ) → a ≡ asked_of text → length text ≤ 49152 → Put r was now 0 (shown_text fates plan) → Put r was now 0 (printed text)
  planned_put text r was now e h =
      plan_put text r was now h plan fates (p.answer ∙ ap planned_as e) (p.fated ∙ ap (λ (b : Asked). fates_by b (planned_as b)) e)

-- ---- with an index of the function's own
pub planned_alone : (text list : List ℕ) (window : ℤ) (table : List ℕ) (fates cards : List (List ℕ)) (cs : List Contact) → length (plain cs) ≡ 1 → (r : Result Planned Refusal) (table' : List ℕ) (index fates' cards' : List (List ℕ))
    → PlannedTo (asked text list window false table (plain cs) fates cards) r table' index fates' cards' → PlannedIn text list window table fates cards r table' fates' cards'
planned_alone text list window table fates cards cs e r table' index fates' cards' p =
    let a : asked text list window false table (plain cs) fates cards ≡ asked_in text list window table fates cards = ap (λ (n : ℕ). Planning.asked_of text list window false (length table) n (length fates) (length cards)) e in
    let q : PlannedTo (asked_in text list window table fates cards) r table' index fates' cards' = rw a at p in
    record { answer = q.answer; tabled = q.tabled; indexed = refl; fated = q.fated; carded = q.carded }
