-- What a caller knows of a plan that was made. Assumes nothing.
use Rattle.std.specs.Prelude.{Result, Ok, Err}
use Rattle.contacts.specs.declared.Mark.{Mark}
use Rattle.planner.specs.declared.Planned.{Planned}
use mathlib.Core.Path.{◌≡◌, refl, sym, ap, ◌∙◌}
use mathlib.Core.List.{List, [], ◌∷◌, ◌++◌}
use Prim.Native.Nat.{ℕ, zero, suc, ◌/◌, ◌≤◌, ◌<◌}
use native.Mathlib.Nat.{not-suc-le-zero, le_of_suc-le-suc}
use native.Mathlib.Omega.{arith}
use lib.Dec.{leb}
use lib.ListN.{length, get_or, length-append}
use borrow.Author.Tests.{leb-true}
use Rattle.text.proofs.BoolLaws.{cases}
use Rattle.refusals.specs.declared.Refusal.{Refusal}
use Rattle.refusals.specs.declared.Refusal.TheVariants.{ShortTable}
use Rattle.chain.specs.Chain.{col}
use Rattle.adif.specs.Records.{records, refused, total}
use Rattle.adif.specs.Reading.{Row as Field, RowsRead}
use Rattle.contacts.specs.Lists.{contacts_of}
use Rattle.indexing.specs.Index.{indexed_as}
use Rattle.plan.specs.Entry.{entries_of}
use Rattle.plan.specs.Fates.{fates_in}
use Rattle.plan.specs.Plan.{Plan, plan_from, planned, counts_with, counts_of, hits_of}
use Rattle.plan.proofs.FateLaws.{fates_many}
use Rattle.entries.specs.Row.{Row, no_row}
use Rattle.entries.proofs.ReadFit.{FitRead, text_fit}
use Rattle.entries.proofs.FilledLaws.{entries_many}
use Rattle.closing.specs.Closed.{fate_rows, padded}
use Rattle.closing.proofs.PhaseLaws.{fates_are}
use Rattle.planner.specs.Planning.{Asked, read_of, plan_for, made, planned_read, planned_by, planned_as, fates_by, PlannedTo}

pub record MadeOf (a : Asked) (n cards already unmatched : ℕ) : Type 0 where
  pub within : n ≤ a.records
  pub few : n ≤ 65535
  pub every : length (plan_for a (read_of a)).fates ≡ n
  pub confirmed : cards ≡ length (plan_for a (read_of a)).confirmations
  pub known : already ≡ (plan_for a (read_of a)).already
  pub strange : unmatched ≡ (plan_for a (read_of a)).unmatched

refused_made : {P : Type 0} (why : Refusal) (n used c already unmatched contacts top : ℕ) → ◌≡◌ {A = Result Planned Refusal} (Err why) (Ok (record { records = n; rows = used; confirmations = c; already = already; unmatched = unmatched; contacts = contacts; largest = top })) → P
refused_made why n used c already unmatched contacts top e = absurd (let z : ◌≡◌ {A = ℕ} 0 1 = cc in omega arith)

module _ (a : Asked) (n used c already unmatched contacts top : ℕ) where
  abbrev answer : Result Planned Refusal
  answer = Ok (record { records = n; rows = used; confirmations = c; already = already; unmatched = unmatched; contacts = contacts; largest = top })

  every_fate : (rs : List (List Field)) → length (plan_for a (records rs)).fates ≡ length rs
  unfolding planned plan_from entries_of
  every_fate rs =
      fates_many a.window a.download (entries_of a.text (records rs)) (hits_of a.window (contacts_of a.list) (entries_of a.text (records rs))) (length (entries_of a.text (records rs)))
      ∙ entries_many a.text 1 rs

  by_read : (k t : ℕ) (r : RowsRead) → read_of a ≡ r → FitRead r → planned_read a k t r ≡ answer → MadeOf a n c already unmatched
  unfolding planned_read made
  by_read k t (refused w) q f e = refused_made w n used c already unmatched contacts top e
  by_read k t (records rs) q f e =
      cases (leb (length rs) a.records)
      (λ u. cases (leb (length (plan_for a (records rs)).confirmations) a.confirmations)
      (λ v.
      let z : Ok (record { records = length rs; rows = total rs; confirmations = length (plan_for a (records rs)).confirmations; already = (plan_for a (records rs)).already; unmatched = (plan_for a (records rs)).unmatched; contacts = k; largest = t }) ≡ answer = rw (u, v) at e in
      let p : ◌≡◌ {A = Planned}
      (record { records = length rs; rows = total rs; confirmations = length (plan_for a (records rs)).confirmations; already = (plan_for a (records rs)).already; unmatched = (plan_for a (records rs)).unmatched; contacts = k; largest = t })
      (record { records = n; rows = used; confirmations = c; already = already; unmatched = unmatched; contacts = contacts; largest = top }) = cc in
      let y : length rs ≡ n = ap (λ (x : Planned). x.records) p in
      let x : length (plan_for a (records rs)).confirmations ≡ c = ap (λ (x : Planned). x.confirmations) p in
      let w : (plan_for a (records rs)).already ≡ already = ap (λ (x : Planned). x.already) p in
      let o : (plan_for a (records rs)).unmatched ≡ unmatched = ap (λ (x : Planned). x.unmatched) p in
      record {
        within = omega (arith, y, leb-true (length rs) a.records u);
        few = omega (arith, y, f.1);
        every = rw q (every_fate rs ∙ y);
        confirmed = rw q (sym x);
        known = rw q (sym w);
        strange = rw q (sym o);
      })
      (λ v. refused_made ShortTable n used c already unmatched contacts top (rw (u, v) at e)))
      (λ u. refused_made ShortTable n used c already unmatched contacts top (rw u at e))

  by_list : (l : Result Mark Refusal) → planned_by a l ≡ answer → MadeOf a n c already unmatched
  unfolding planned_by
  by_list (Err why) e = refused_made why n used c already unmatched contacts top e
  by_list (Ok m) e = by_read m.contacts m.largest (read_of a) refl (text_fit a.text (a.numbers / 5)) e

  pub made_of : answer ≡ planned_as a → MadeOf a n c already unmatched
  unfolding planned_as
  made_of e = by_list (indexed_as a.list a.contacts) (sym e)

-- ---- the fates in the rows
rows_many : (fs rs : List ℕ) → length (fate_rows fs rs) ≡ length fs
rows_many [] rs = refl
rows_many (f ∷ fs) [] = ap suc (rows_many fs [])
rows_many (f ∷ fs) (r ∷ rs) = ap suc (rows_many fs rs)

row_at : (fs rs : List ℕ) (pad : List Row) (k : ℕ) → k < length fs → col (fate_rows fs rs ++ pad) k 0 ≡ get_or fs k 0
row_at [] rs pad k h = absurd (not-suc-le-zero h)
row_at (f ∷ fs) [] pad zero h = refl
row_at (f ∷ fs) [] pad (suc k) h = row_at fs [] pad k (le_of_suc-le-suc h)
row_at (f ∷ fs) (r ∷ rs) pad zero h = refl
row_at (f ∷ fs) (r ∷ rs) pad (suc k) h = row_at fs rs pad k (le_of_suc-le-suc h)

module _ (a : Asked) (n used c already unmatched contacts top : ℕ) (table : List ℕ) (index fates cards : List (List ℕ))
    (K : PlannedTo a (Ok (record { records = n; rows = used; confirmations = c; already = already; unmatched = unmatched; contacts = contacts; largest = top })) table index fates cards) where
  made_here : MadeOf a n c already unmatched
  made_here = made_of a n used c already unmatched contacts top K.answer

  abbrev plan : Plan
  plan = plan_for a (read_of a)

  fates_here : fates ≡ padded (fate_rows plan.fates plan.reasons) no_row a.records
  unfolding fates_by
  fates_here = K.fated ∙ rw (← K.answer) refl

  pub made_within : n ≤ length fates
  made_within =
      let l = ap length fates_here ∙ length-append (fate_rows plan.fates plan.reasons) _ in
      omega (arith, l, rows_many plan.fates plan.reasons, made_here.every)

  pub made_few : n ≤ 65535
  made_few = made_here.few

  same_fates : fates_in fates n ≡ plan.fates
  same_fates =
      fates_are fates n plan.fates (sym made_here.every) (λ k h. ap (λ (x : List Row). col x k 0) fates_here ∙ row_at plan.fates plan.reasons _ k (omega (arith, made_here.every)))

  pub made_counts : counts_with (fates_in fates n) c already unmatched ≡ counts_of plan
  unfolding counts_of
  made_counts = rw (same_fates, made_here.confirmed, made_here.known, made_here.strange) refl
