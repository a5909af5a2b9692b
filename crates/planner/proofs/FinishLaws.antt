-- The end of a plan, by its reading and by what the last phases answer. Assumes nothing.
use Rattle.std.specs.Prelude.{Option, Some, None, Result, Ok, Err}
use Rattle.reader.specs.declared.Reading.{Reading}
use Rattle.contacts.specs.declared.Mark.{Mark}
use Rattle.cards.specs.declared.Counted.{Counted}
use mathlib.Core.Path.{◌≡◌, refl, sym, ◌∙◌}
use mathlib.Core.Bool.{Bool, true, false}
use Rattle.std.specs.Result.{is_err}
use native.Mathlib.Omega.{arith}
use mathlib.Core.List.{List}
use Prim.Native.Nat.{ℕ}
use lib.IntN.{ℤ}
use lib.ListN.{length, replicate}
use Rattle.refusals.specs.declared.Refusal.{Refusal}
use Rattle.refusals.specs.declared.Refusal.TheVariants.{ShortTable}
use Rattle.indexing.specs.Index.{count_in}
use Rattle.plan.specs.Plan.{Plan}
use Rattle.plan.specs.Cards.{no_card}
use Rattle.closing.specs.Phases.{Searched, plan_read}
use Rattle.closing.specs.Closed.{closed_table, closed_fates, closed_cards, Closed}
use Rattle.closing.proofs.CloseLaws.{counted_some, counted_full}
use Rattle.planner.specs.declared.Planned.{Planned}
use Rattle.planner.specs.Planning.{made}
use Rattle.planner.specs.Finished.{largest_in, gone_of, Ready, finished_as, finished_table, finished_fates, finished_cards, Finished}

pub largest_marked : (l : Result Mark Refusal) (m : Mark) → l ≡ Ok m → m.largest ≡ largest_in l
unfolding largest_in
largest_marked l m e = rw e refl

pub largest_refused : (l : Result Mark Refusal) (why : Refusal) → l ≡ Err why → 0 ≡ largest_in l
unfolding largest_in
largest_refused l why e = rw e refl

pub gone_all : (p : Result Planned Refusal) (m : ℕ) → is_err p ≡ true → m ≡ gone_of p m
unfolding gone_of
gone_all (Ok x) m e = absurd (let z : ◌≡◌ {A = ℕ} 0 1 = cc in omega arith)
gone_all (Err w) m e = refl

pub gone_none : (p : Result Planned Refusal) (m : ℕ) → is_err p ≡ false → 0 ≡ gone_of p m
unfolding gone_of
gone_none (Ok x) m e = refl
gone_none (Err w) m e = absurd (let z : ◌≡◌ {A = ℕ} 0 1 = cc in omega arith)

module _ (text list : List ℕ) (window : ℤ) (download : Bool) (listed : Result Mark Refusal) (reading : Result Reading Refusal) (table : List ℕ) (fates cards : List (List ℕ)) where
  pub finish_unread : (why : Refusal) → reading ≡ Err why → Finished text list window download listed reading table fates cards (Err why) table fates cards
  unfolding finished_as finished_table finished_fates finished_cards
  finish_unread why e = record { answer = rw e refl; tabled = rw e refl; fated = rw e refl; carded = rw e refl }

  module _ (x : Reading) (e : reading ≡ Ok x) where
    pub ready_searched : Ready text list window reading table fates cards → Searched text list table window x.records fates
    unfolding Ready
    ready_searched R = (rw e at R).0

    pub ready_blank : Ready text list window reading table fates cards → cards ≡ replicate (length cards) no_card
    unfolding Ready
    ready_blank R = (rw e at R).1

    abbrev p : Plan
    p = plan_read text list window download table

    module _ (r : Option Counted) (table' : List ℕ) (fates' cards' : List (List ℕ)) (K : Closed p table (length fates) (length cards) r table' fates' cards') where
      pub finish_full : r ≡ None → Finished text list window download listed reading table fates cards (Err ShortTable) table' fates' cards'
      unfolding finished_as finished_table finished_fates finished_cards closed_table closed_fates closed_cards
      finish_full f = record {
        answer = rw (e, counted_full p (length cards) (sym K.answer ∙ f)) refl;
        tabled = K.tabled ∙ rw (e, f) refl;
        fated = K.fated ∙ rw (e, f) refl;
        carded = K.carded ∙ rw (e, f) refl;
      }

      pub finish_made : (k : Counted) → r ≡ Some k → (contacts top : ℕ) → contacts ≡ count_in listed → top ≡ largest_in listed
          → Finished text list window download listed reading table fates cards (Ok (record { records = x.records; rows = x.rows; confirmations = k.confirmations; already = k.already; unmatched = k.unmatched; contacts = contacts; largest = top })) table' fates' cards'
      unfolding finished_as finished_table finished_fates finished_cards closed_table closed_fates closed_cards made
      finish_made k f contacts top ec et =
          let s = counted_some p (length cards) k.confirmations k.already k.unmatched (sym K.answer ∙ f) in
          record {
            answer = rw (e, s.0, s.1, s.2, s.3, ec, et) refl;
            tabled = K.tabled ∙ rw (e, f) refl;
            fated = K.fated ∙ rw (e, f) refl;
            carded = K.carded ∙ rw (e, f) refl;
          }
