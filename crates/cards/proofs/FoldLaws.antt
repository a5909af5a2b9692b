-- The answers of a record, counted one after the other, come to those that count and that its contact has not, or has. Assumes nothing.
use mathlib.Core.Path.{◌≡◌, refl, sym, ap, ◌∙◌}
use mathlib.Core.Bool.{Bool, true, false, not}
use mathlib.Core.List.{List, [], ◌∷◌, ◌++◌, map, append_assoc}
use Prim.Native.Nat.{ℕ, suc, ◌+◌}
use native.Mathlib.Nat.{add-zero}
use native.Mathlib.Omega.{arith}
use lib.ListN.{length, set, length-append}
use lib.Seq.{sets}
use Rattle.text.specs.Pick.{pick, both}
use Rattle.text.proofs.BoolLaws.{cases}
use Rattle.tables.specs.declared.Place.{Place}
use Rattle.confirmations.specs.declared.Answer.{Answer}
use Rattle.plan.specs.Confirmed.{has_bit, given}
use Rattle.model.specs.Flags.{one_if}
use Rattle.tallies.specs.Tallies.{target, is_new, is_old, is_lost, tally_with, card_for}
use Rattle.tallies.specs.declared.Tally.{Tally}
use Rattle.tallies.specs.declared.Target.{Target}
use Rattle.cards.specs.Steps.{tally_of, cards_of, tally_over, cards_over}

abbrev answer : Bool → ℕ → Place → Answer
answer p s d = record { present = p; service = s; date = d }

-- ---- of answers that count: to be recorded, known already, unmatched
abbrev pub new_of : Target → List Answer → List Answer
new_of to l = pick to.matched (given (λ s. not (has_bit to.services s)) l) []

abbrev pub old_of : Target → List Answer → List Answer
old_of to l = pick to.matched (given (has_bit to.services) l) []

abbrev pub lost_of : Target → List Answer → List Answer
lost_of to l = pick to.matched [] l

abbrev new_if : Target → (ℕ → Bool) → Answer → Bool
new_if to c a = both a.present (is_new to (c a.service) a.service)

abbrev old_if : Target → (ℕ → Bool) → Answer → Bool
old_if to c a = both a.present (is_old to (c a.service) a.service)

abbrev lost_if : Target → (ℕ → Bool) → Answer → Bool
lost_if to c a = both a.present (is_lost to (c a.service))

new_cons : (m : Bool) (sv lo hi : ℕ) (c : ℕ → Bool) (p : Bool) (s : ℕ) (d : Place) (l : List Answer)
    → new_of (target m sv lo hi) (given c (answer p s d ∷ l)) ≡ pick (new_if (target m sv lo hi) c (answer p s d)) (answer p s d ∷ new_of (target m sv lo hi) (given c l)) (new_of (target m sv lo hi) (given c l))
unfolding is_new
new_cons m sv lo hi c false s d l = refl
new_cons false sv lo hi c true s d l = cases (c s) (λ u. rw u refl) (λ u. rw u refl)
new_cons true sv lo hi c true s d l =
    cases (c s) (λ u. cases (has_bit sv s) (λ v. rw (u, v) refl) (λ v. rw (u, v) refl)) (λ u. rw u refl)

old_cons : (m : Bool) (sv lo hi : ℕ) (c : ℕ → Bool) (p : Bool) (s : ℕ) (d : Place) (l : List Answer)
    → old_of (target m sv lo hi) (given c (answer p s d ∷ l)) ≡ pick (old_if (target m sv lo hi) c (answer p s d)) (answer p s d ∷ old_of (target m sv lo hi) (given c l)) (old_of (target m sv lo hi) (given c l))
unfolding is_old
old_cons m sv lo hi c false s d l = refl
old_cons false sv lo hi c true s d l = cases (c s) (λ u. rw u refl) (λ u. rw u refl)
old_cons true sv lo hi c true s d l =
    cases (c s) (λ u. cases (has_bit sv s) (λ v. rw (u, v) refl) (λ v. rw (u, v) refl)) (λ u. rw u refl)

lost_cons : (m : Bool) (sv lo hi : ℕ) (c : ℕ → Bool) (p : Bool) (s : ℕ) (d : Place) (l : List Answer)
    → lost_of (target m sv lo hi) (given c (answer p s d ∷ l)) ≡ pick (lost_if (target m sv lo hi) c (answer p s d)) (answer p s d ∷ lost_of (target m sv lo hi) (given c l)) (lost_of (target m sv lo hi) (given c l))
unfolding is_lost
lost_cons m sv lo hi c false s d l = refl
lost_cons true sv lo hi c true s d l = cases (c s) (λ u. rw u refl) (λ u. rw u refl)
lost_cons false sv lo hi c true s d l = cases (c s) (λ u. rw u refl) (λ u. rw u refl)

module _ (to : Target) (c : ℕ → Bool) where
  used_one : (p : Bool) (s : ℕ) (d : Place) (t : Tally) → (tally_of to c (answer p s d) t).used ≡ t.used + one_if (new_if to c (answer p s d))
  unfolding tally_of tally_with
  used_one true s d t = refl
  used_one false s d t = omega arith

  already_one : (p : Bool) (s : ℕ) (d : Place) (t : Tally) → (tally_of to c (answer p s d) t).already ≡ t.already + one_if (old_if to c (answer p s d))
  unfolding tally_of tally_with
  already_one true s d t = refl
  already_one false s d t = omega arith

  unmatched_one : (p : Bool) (s : ℕ) (d : Place) (t : Tally) → (tally_of to c (answer p s d) t).unmatched ≡ t.unmatched + one_if (lost_if to c (answer p s d))
  unfolding tally_of tally_with
  unmatched_one true s d t = refl
  unmatched_one false s d t = omega arith

  step_length : (u : Bool) (x n : ℕ) (a : Answer) (l : List Answer) → x ≡ n + one_if u → x + length l ≡ n + length (pick u (a ∷ l) l)
  step_length true x n a l e = omega arith
  step_length false x n a l e = omega arith

  none : (m : Bool) → length (pick {A = List Answer} m [] []) ≡ 0
  none true = refl
  none false = refl

  pub used_over : (l : List Answer) (t : Tally) → (tally_over to c l t).used ≡ t.used + length (new_of to (given c l))
  used_over [] t = omega (arith, none to.matched)
  used_over (a ∷ l) t =
      used_over l (tally_of to c a t)
      ∙ step_length (new_if to c a) (tally_of to c a t).used t.used a (new_of to (given c l)) (used_one a.present a.service a.date t)
      ∙ ap (λ (x : List Answer). t.used + length x) (sym (new_cons to.matched to.services to.low to.high c a.present a.service a.date l))

  pub already_over : (l : List Answer) (t : Tally) → (tally_over to c l t).already ≡ t.already + length (old_of to (given c l))
  already_over [] t = omega (arith, none to.matched)
  already_over (a ∷ l) t =
      already_over l (tally_of to c a t)
      ∙ step_length (old_if to c a) (tally_of to c a t).already t.already a (old_of to (given c l)) (already_one a.present a.service a.date t)
      ∙ ap (λ (x : List Answer). t.already + length x) (sym (old_cons to.matched to.services to.low to.high c a.present a.service a.date l))

  pub unmatched_over : (l : List Answer) (t : Tally) → (tally_over to c l t).unmatched ≡ t.unmatched + length (lost_of to (given c l))
  unmatched_over [] t = omega (arith, none to.matched)
  unmatched_over (a ∷ l) t =
      unmatched_over l (tally_of to c a t)
      ∙ step_length (lost_if to c a) (tally_of to c a t).unmatched t.unmatched a (lost_of to (given c l)) (unmatched_one a.present a.service a.date t)
      ∙ ap (λ (x : List Answer). t.unmatched + length x) (sym (lost_cons to.matched to.services to.low to.high c a.present a.service a.date l))

-- ---- the rows of the confirmations
sets_more : {A : Type 0} (vs l : List A) (i : ℕ) (x : A) → sets l i (vs ++ (x ∷ [])) ≡ set (sets l i vs) (i + length vs) x
sets_more [] l i x = ap (λ (n : ℕ). set l n x) (sym (add-zero i))
sets_more (v ∷ vs) l i x =
    let z : suc i + length vs ≡ i + suc (length vs) = omega arith in
    sets_more vs (set l i v) (suc i) x ∙ ap (λ (n : ℕ). set (sets (set l i v) (suc i) vs) n x) z

nothing_more : {A : Type 0} (l : List A) → l ≡ l ++ []
nothing_more [] = refl
nothing_more (x ∷ l) = ap (λ (r : List _). x ∷ r) (nothing_more l)

no_cards : (f : Answer → List ℕ) (m : Bool) → map f (pick {A = List Answer} m [] []) ≡ []
no_cards f true = refl
no_cards f false = refl

module _ (was : List (List ℕ)) where
  one_card : (u : Bool) (x : List ℕ) (l : List (List ℕ)) (used : ℕ) → used ≡ length l
      → pick u (set (sets was 0 l) used x) (sets was 0 l) ≡ sets was 0 (pick u (l ++ (x ∷ [])) l)
  one_card true x l used e = let z : used ≡ 0 + length l = omega arith in ap (λ (n : ℕ). set (sets was 0 l) n x) z ∙ sym (sets_more l was 0 x)
  one_card false x l used e = refl

  one_longer : (u : Bool) (x : List ℕ) (l : List (List ℕ)) (used now : ℕ) → used ≡ length l → now ≡ used + one_if u → now ≡ length (pick u (l ++ (x ∷ [])) l)
  one_longer true x l used now e h = omega (arith, length-append l (x ∷ []))
  one_longer false x l used now e h = omega arith

  all_cards : (f : Answer → List ℕ) (u : Bool) (a : Answer) (l : List (List ℕ)) (rest : List Answer) → pick u (l ++ (f a ∷ [])) l ++ map f rest ≡ l ++ map f (pick u (a ∷ rest) rest)
  all_cards f true a l rest = append_assoc l (f a ∷ []) (map f rest)
  all_cards f false a l rest = refl

  cards_one : (to : Target) (c : ℕ → Bool) (a : Answer) (used : ℕ) (cards : List (List ℕ)) → cards_of to c a used cards ≡ pick (new_if to c a) (set cards used (card_for to a)) cards
  unfolding cards_of
  cards_one to c a used cards = refl

  pub cards_over_lem : (to : Target) (c : ℕ → Bool) (l : List Answer) (t : Tally) (cards done : List (List ℕ)) → cards ≡ sets was 0 done → t.used ≡ length done
      → cards_over to c l t cards ≡ sets was 0 (done ++ map (card_for to) (new_of to (given c l)))
  cards_over_lem to c [] t cards done e h = e ∙ ap (λ (x : List (List ℕ)). sets was 0 x) (nothing_more done ∙ ap (λ (x : List (List ℕ)). done ++ x) (sym (no_cards (card_for to) to.matched)))
  cards_over_lem to c (a ∷ l) t cards done e h =
      let u = new_if to c a in
      cards_over_lem to c l (tally_of to c a t) (cards_of to c a t.used cards) (pick u (done ++ (card_for to a ∷ [])) done)
      (cards_one to c a t.used cards ∙ ap (λ (x : List (List ℕ)). pick u (set x t.used (card_for to a)) x) e ∙ one_card u (card_for to a) done t.used h)
      (one_longer u (card_for to a) done t.used (tally_of to c a t).used h (used_one to c a.present a.service a.date t))
      ∙ ap (λ (x : List (List ℕ)). sets was 0 x)
      (all_cards (card_for to) u a done (new_of to (given c l))
      ∙ ap (λ (x : List Answer). done ++ map (card_for to) x) (sym (new_cons to.matched to.services to.low to.high c a.present a.service a.date l)))
