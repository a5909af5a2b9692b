-- A record closed and a reading finished, by the tests that the code makes. Assumes nothing.
use Rattle.std.specs.Prelude.{Result, Ok, Err}
use Rattle.reader.specs.declared.Reading.{Reading}
use mathlib.Core.Path.{◌≡◌, refl, ◌∙◌}
use mathlib.Core.List.{List, [], ◌∷◌, ◌++◌}
use Prim.Native.Nat.{ℕ, ◌+◌, ◌*◌, ◌-◌, ◌/◌, ◌≤◌, ◌<◌}
use native.Mathlib.Omega.{arith}
use lib.ListN.{length, take, length-append}
use lib.Seq.{sets}
use Rattle.std.proofs.Math.Seq.{take-length}
use lib.Dec.{leb, ltb}
use borrow.Author.Tests.{lt-ltb, le-ltb, le-leb, lt-leb}
use Rattle.text.specs.Pick.{pick}
use Rattle.refusals.specs.declared.Refusal.{Refusal}
use Rattle.refusals.specs.declared.Refusal.TheVariants.{ManyRecords, FewRows}
use Rattle.adif.specs.Records
use Rattle.adif.specs.Records.{on, no, then, records, total, close}
use Rattle.adif.specs.Reading.{Row, rows}
use Rattle.hand.specs.Rows.{laid}
use Rattle.reader.specs.Table.{laid_from, answer_of}
use Rattle.reader.specs.Stands.{Stands, Closing, Closes, Finished, Finishes}
use Rattle.reader.proofs.LaidLaws.{laid_from-length, total_snoc, laid_next, front}

close_some : (at room : ℕ) (xs : List Row) (done : List (List Row)) → (length xs ≡ 0 → ⊥)
    → close (rows [] at) room xs done
    ≡ pick (ltb (length done) 65535) (pick (leb (total done + length xs) room) (on [] (done ++ (xs ∷ []))) (no (FewRows at))) (no (ManyRecords at))
close_some at room [] done h = absurd (h refl)
close_some at room (x ∷ xs) done h = refl

module _ (hand : List Row) (closed : Reading) (at : ℕ) (before : List ℕ) where
  pub close_empty : length hand ≡ 0 → Closes hand closed.records closed.rows at before before (Ok closed)
  unfolding Closes
  close_empty e was done S = (done, nothing hand e, S)
    where
      nothing : (h : List Row) → length h ≡ 0 → close (rows [] at) (length before / 5) h done ≡ on [] done
      nothing [] z = refl
      nothing (x ∷ xs) z = absurd (omega arith)

  module _ (some : length hand ≡ 0 → ⊥) where
    pub close_many : 65535 ≤ closed.records → Closes hand closed.records closed.rows at before before (Err (ManyRecords at))
    unfolding Closes
    close_many h was done S = close_some at (length before / 5) hand done some ∙ rw (le-ltb (length done) 65535 (omega (arith, S.counted)))

    module _ (f : closed.records < 65535) where
      pub close_few : length before - closed.rows * 5 < length hand * 5 → Closes hand closed.records closed.rows at before before (Err (FewRows at))
      unfolding Closes
      close_few h was done S =
          close_some at (length before / 5) hand done some
          ∙ rw (lt-ltb (length done) 65535 (omega (arith, S.counted)), lt-leb (total done + length hand) (length before / 5) (omega (arith, S.taken)))

      pub close_moved : (after : List ℕ) → length hand * 5 ≤ length before - closed.rows * 5 → length after ≡ length before
          → after ≡ sets before (closed.rows * 5) (laid (closed.records + 1) (take (length hand) hand))
          → Closes hand closed.records closed.rows at before after (Ok (record { records = closed.records + 1; rows = closed.rows + length hand }))
      unfolding Closes
      close_moved after h l e was done S = (
        done ++ (hand ∷ []),
        close_some at (length before / 5) hand done some
            ∙ rw (lt-ltb (length done) 65535 (omega (arith, S.counted)), le-leb (total done + length hand) (length before / 5) (omega (arith, S.taken, S.fits, some))),
        record {
          counted = omega (arith, S.counted, length-append done (hand ∷ []));
          taken = omega (arith, S.taken, total_snoc done hand);
          shown = e ∙ rw (take-length hand, S.shown) (laid_next was done hand closed.rows closed.records S.taken S.counted);
          fits = omega (arith, S.fits);
        },
      )

-- the rows of closed records stand at the front
pub shown_of : (was table : List ℕ) (r : Reading) (done : List (List Row)) → Stands was table r.records r.rows done → Finished table (Ok r) (records done)
shown_of was table r done S =
    let c : r.records ≡ length done = S.counted in
    let u : r.rows ≡ total done = S.taken in
    let h : length (laid_from 1 done) ≤ length table = omega (arith, laid_from-length 1 done, S.fits) in
    let a : ◌≡◌ {A = Result Reading Refusal} (Ok (record { records = r.records; rows = r.rows })) (answer_of (records done)) = cc in
    (a, (front was (laid_from 1 done) table S.shown h, h))

module _ (hand : List Row) (closed : Reading) (at : ℕ) (before : List ℕ) where
  pub finish_none : closed.records ≡ 0 → Finishes hand closed.records closed.rows at before before (Ok closed)
  unfolding Finishes
  finish_none e was [] S = shown_of was before closed [] S
  finish_none e was (d ∷ ds) S = absurd (omega (arith, S.counted))

  pub finish_closed : (closed.records ≡ 0 → ⊥) → (after : List ℕ) (r : Result Reading Refusal) → Closes hand closed.records closed.rows at before after r
      → Finishes hand closed.records closed.rows at before after r
  unfolding Finishes Closes
  finish_closed some after r C was [] S = absurd (some S.counted)
  finish_closed some after r C was (d ∷ ds) S = by r _ (C was (d ∷ ds) S)
    where
      by : (x : Result Reading Refusal) (t : Records.Turn Row Refusal) → Closing was after x t → Finished after x (then t (λ h rs. records rs))
      by (Ok n) t K = rw K.1 (shown_of was after n K.0 K.2)
      by (Err w) t K = rw K (refl, tt)
