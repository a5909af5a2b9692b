-- One answer, four of them, one record: what the calls come to. Assumes nothing.
use mathlib.Core.Path.{◌≡◌, refl, sym, ap, ◌∙◌}
use mathlib.Core.Bool.{Bool, true, false, not}
use mathlib.Core.List.{List, [], ◌∷◌}
use Prim.Native.Nat.{ℕ, suc, ◌+◌, ◌%◌, ◌≤◌, ◌<◌}
use native.Mathlib.Omega.{arith}
use lib.Dec.{eqb}
use lib.ListN.{length, get_or, drop, set, drop_of_length-le}
use lib.Seq.{drop-cons}
use borrow.Author.Tests.{eq-eqb, ne_eqb}
use Rattle.text.specs.Pick.{pick, both, either}
use Rattle.chain.specs.Chain.{col}
use Rattle.confirmations.specs.Confirmations.{unanswered}
use Rattle.confirmations.specs.declared.Answer.{Answer}
use Rattle.entries.specs.Row.{Row}
use Rattle.counted.specs.Counted.{code_in, seen, marked}
use Rattle.tallies.specs.Tallies.{target_of, is_new, tally_with, card_for, unmarked, services_in, Few, Grown}
use Rattle.tallies.specs.declared.Tally.{Tally}
use Rattle.tallies.specs.declared.Target.{Target}
use Rattle.cards.specs.Steps.{tally_of, cards_of, tally_over, cards_over, unseen, confirms, answers_in, tally_at, cards_at, rows_at, Ready}

module _ (text : List ℕ) (rows : List Row) (k : ℕ) (to : Target) (a : Answer) (t : Tally) (cards : List (List ℕ)) where
  module _ (v : Bool) (ev : v ≡ seen text rows k a.service) (p : a.present ≡ true) where
    counts_is : unseen text rows k a.service ≡ not v
    unfolding unseen
    counts_is = ap not (sym ev)

    pub answer_counted : (r : Tally) → r ≡ tally_with to (not v) a.service t → r ≡ tally_of to (unseen text rows k) a t
    unfolding tally_of
    answer_counted r e =
        e ∙ ap (λ (x : Bool). tally_with to x a.service t) (sym counts_is)
        ∙ ap (λ (x : Bool). pick x (tally_with to (unseen text rows k a.service) a.service t) t) (sym p)

    module _ (x : Bool) (ex : x ≡ is_new to (not v) a.service) where
      news : both a.present (is_new to (unseen text rows k a.service) a.service) ≡ x
      news =
          ap (λ (y : Bool). both y (is_new to (unseen text rows k a.service) a.service)) p
          ∙ ap (λ (y : Bool). is_new to y a.service) counts_is
          ∙ sym ex

      pub answer_new : (now : List (List ℕ)) → x ≡ true → now ≡ set cards t.used (card_for to a) → now ≡ cards_of to (unseen text rows k) a t.used cards
      unfolding cards_of
      answer_new now h e = e ∙ ap (λ (y : Bool). pick y (set cards t.used (card_for to a)) cards) (sym (news ∙ h))

      pub answer_not_new : x ≡ false → cards ≡ cards_of to (unseen text rows k) a t.used cards
      unfolding cards_of
      answer_not_new h = ap (λ (y : Bool). pick y (set cards t.used (card_for to a)) cards) (sym (news ∙ h))

  pub absent_counted : a.present ≡ false → t ≡ tally_of to (unseen text rows k) a t
  unfolding tally_of
  absent_counted p = ap (λ (x : Bool). pick x (tally_with to (unseen text rows k a.service) a.service t) t) (sym p)

  pub absent_cards : a.present ≡ false → cards ≡ cards_of to (unseen text rows k) a t.used cards
  unfolding cards_of
  absent_cards p =
      ap (λ (x : Bool). pick (both x (is_new to (unseen text rows k a.service) a.service)) (set cards t.used (card_for to a)) cards) (sym p)

-- ---- of the answers those from i on are left
pub record Going (to : Target) (counts : ℕ → Bool) (answers : List Answer) (was : Tally) (cards : List (List ℕ)) (i : ℕ) (t : Tally) (now : List (List ℕ)) : Type 0 where
  pub tally : tally_over to counts (drop i answers) t ≡ tally_over to counts answers was
  pub rows : cards_over to counts (drop i answers) t now ≡ cards_over to counts answers was cards
  pub used : t.used ≤ was.used + i
  pub already : t.already ≤ was.already + i
  pub unmatched : t.unmatched ≤ was.unmatched + i

module _ (to : Target) (counts : ℕ → Bool) (answers : List Answer) (was : Tally) (cards : List (List ℕ)) where
  pub going_start : Going to counts answers was cards 0 was cards
  going_start = record { tally = refl; rows = refl; used = omega arith; already = omega arith; unmatched = omega arith }

  module _ (i : ℕ) (t : Tally) (now : List (List ℕ)) (G : Going to counts answers was cards i t now) where
    pub going_few : i < 4 → was.used ≤ 17179869184 → was.already ≤ 17179869184 → was.unmatched ≤ 17179869184 → Few t
    going_few h u a m = record { used = omega (arith, G.used); already = omega (arith, G.already); unmatched = omega (arith, G.unmatched) }

    pub going_on : i < length answers → (r : Tally) (after : List (List ℕ)) → r ≡ tally_of to counts (get_or answers i unanswered) t → after ≡ cards_of to counts (get_or answers i unanswered) t.used now → Grown 1 t r
        → Going to counts answers was cards (i + 1) r after
    going_on h r after er ea g =
        let z : suc i ≡ i + 1 = omega arith in
        let c : drop i answers ≡ get_or answers i unanswered ∷ drop (suc i) answers = drop-cons answers i unanswered h in
        record {
          tally = rw (er, ← z) (sym (ap (λ (l : List Answer). tally_over to counts l t) c) ∙ G.tally);
          rows = rw (ea, er, ← z) (sym (ap (λ (l : List Answer). cards_over to counts l t now) c) ∙ G.rows);
          used = omega (arith, G.used, g.used);
          already = omega (arith, G.already, g.already);
          unmatched = omega (arith, G.unmatched, g.unmatched);
        }

    pub going_tally : length answers ≤ i → t ≡ tally_over to counts answers was
    going_tally h = sym (ap (λ (l : List Answer). tally_over to counts l t) (drop_of_length-le answers {i = i} h)) ∙ G.tally

    pub going_rows : length answers ≤ i → now ≡ cards_over to counts answers was cards
    going_rows h = sym (ap (λ (l : List Answer). cards_over to counts l t now) (drop_of_length-le answers {i = i} h)) ∙ G.rows

    pub going_grown : i ≤ 4 → Grown 4 was t
    going_grown h = record { used = omega (arith, G.used); already = omega (arith, G.already); unmatched = omega (arith, G.unmatched) }

module _ (text table list : List ℕ) (fates : List Row) (k : ℕ) (t u : Tally) (f h p : ℕ) (to : Target) (given : List Answer) (ef : f ≡ col fates k 0) (eh : h ≡ col fates k 22) (ep : p ≡ col fates k 27) (et : to ≡ target_of list f h p) (ea : given ≡ answers_in text table (get_or fates k [])) (eu : u ≡ unmarked t) where
  pub at_counted : (r : Tally) → r ≡ tally_over to (unseen text fates k) given u → r ≡ tally_at text table list fates k t
  unfolding tally_at
  at_counted r e = e ∙ rw (ea, et, ef, eh, ep, eu) refl

  pub at_cards : (was now : List (List ℕ)) → now ≡ cards_over to (unseen text fates k) given u was → now ≡ cards_at text table list fates k t was
  unfolding cards_at
  at_cards was now e = e ∙ rw (ea, et, ef, eh, ep, eu) refl

module _ (fates : List Row) (n k : ℕ) (r : Tally) (services : ℕ) (es : services ≡ services_in r) where
  pub at_marked : (now : List Row) → (services ≡ 0 → ⊥) → now ≡ marked fates (code_in (get_or fates k []) % n) k services → now ≡ rows_at fates n k (services_in r)
  unfolding rows_at
  at_marked now h e = rw (← es, ne_eqb services 0 h) e

  pub at_left : services ≡ 0 → fates ≡ rows_at fates n k (services_in r)
  unfolding rows_at
  at_left h = rw (← es, eq-eqb services 0 h) refl

pub chosen : {A : Type 0} (fate : ℕ) (t : Bool) (r x y : A) → t ≡ either (eqb fate 5) (eqb fate 6) → t ≡ true → r ≡ x → r ≡ pick (confirms fate) x y
chosen fate t r x y et h e = rw (← et, h) e

pub passed : {A : Type 0} (fate : ℕ) (t : Bool) (x y : A) → t ≡ either (eqb fate 5) (eqb fate 6) → t ≡ false → y ≡ pick (confirms fate) x y
passed fate t x y et h = rw (← et, h) refl

-- ---- bounds
pub grown_from : (t u r : Tally) → u ≡ unmarked t → Grown 4 u r → Grown 4 t r
unfolding unmarked
grown_from t u r e g =
    record {
      used = omega (arith, g.used, ap (λ (x : Tally). x.used) e);
      already = omega (arith, g.already, ap (λ (x : Tally). x.already) e);
      unmatched = omega (arith, g.unmatched, ap (λ (x : Tally). x.unmatched) e);
    }

module _ (text table list : List ℕ) (n k : ℕ) (fates : List Row) (t u : Tally) (R : Ready text table list n k fates t) (e : u ≡ unmarked t) where
  pub few_used : u.used ≤ 17179869184
  unfolding unmarked
  few_used = omega (arith, R.used, R.few, R.marked.inside, ap (λ (x : Tally). x.used) e)

  pub few_already : u.already ≤ 17179869184
  unfolding unmarked
  few_already = omega (arith, R.already, R.few, R.marked.inside, ap (λ (x : Tally). x.already) e)

  pub few_unmatched : u.unmatched ≤ 17179869184
  unfolding unmarked
  few_unmatched = omega (arith, R.unmatched, R.few, R.marked.inside, ap (λ (x : Tally). x.unmatched) e)
