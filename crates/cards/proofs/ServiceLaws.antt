-- The services that count at a record, as bits; and that an answer's service is one of the four. Assumes nothing.
use mathlib.Core.Path.{◌≡◌, refl, sym, ap, ◌∙◌, subst}
use mathlib.Core.Bool.{Bool, true, false, not}
use mathlib.Core.List.{List, [], ◌∷◌}
use Prim.Native.Nat.{ℕ}
use lib.Dec.{eqb}
use borrow.Author.Tests.{eqb-true}
use Rattle.text.specs.Pick.{both, either}
use Rattle.text.proofs.BoolLaws.{cases, both_left, both_right, both_true, either_either, either_none, both_no}
use Rattle.tables.specs.declared.Place.{Place}
use Rattle.confirmations.specs.Confirmations.{answered, attributed, answers_of}
use Rattle.confirmations.specs.declared.Answer.{Answer}
use Rattle.plan.specs.Confirmed.{has_bit, bears, given}
use Rattle.entries.specs.Row.{Row}
use Rattle.tallies.specs.Tallies.{tally_with, unmarked, bits_of, services_in}
use Rattle.tallies.specs.declared.Tally.{Tally}
use Rattle.tallies.specs.declared.Target.{Target}
use Rattle.cards.specs.Steps.{tally_of, tally_over, answers_in}

abbrev pub is_service : ℕ → Bool
is_service s = either (eqb s 1) (either (eqb s 2) (either (eqb s 4) (eqb s 8)))

-- the services of those that are given
abbrev pub served : List Answer → Bool
served [] = true
served (a ∷ l) = both (either (not a.present) (is_service a.service)) (served l)

abbrev answer : Bool → ℕ → Place → Answer
answer p s d = record { present = p; service = s; date = d }

-- ---- one of four
by_service : (P : ℕ → Type 0) (s : ℕ) → is_service s ≡ true → P 1 → P 2 → P 4 → P 8 → P s
by_service P s e a b c d =
    cases (eqb s 1) (λ u. subst P (sym (eqb-true s 1 u)) a)
    (λ u. cases (eqb s 2) (λ v. subst P (sym (eqb-true s 2 v)) b)
    (λ v. cases (eqb s 4) (λ w. subst P (sym (eqb-true s 4 w)) c)
    (λ w. subst P (sym (eqb-true s 8 (rw (u, v, w) at e))) d)))

attributed_served : (l e : Bool) → is_service (attributed l e) ≡ true
unfolding attributed
attributed_served true e = refl
attributed_served false true = refl
attributed_served false false = refl

answered_served : (b : Bool) (s : ℕ) (d : Place) → is_service s ≡ true → either (not (answered b s d).present) (is_service (answered b s d).service) ≡ true
unfolding answered
answered_served true s d h = h
answered_served false s d h = refl

pub answers_served : (text table : List ℕ) (r : Row) → served (answers_in text table r) ≡ true
unfolding answers_in answers_of
answers_served text table r =
    both_true _ _ (answered_served _ 1 _ refl)
    (both_true _ _ (answered_served _ 2 _ refl)
    (both_true _ _ (answered_served _ 4 _ refl)
    (both_true _ _ (answered_served _ (attributed _ _) _ (attributed_served _ _)) refl)))

-- ---- tests that agree on the four give the same
given_at : (p q : ℕ → Bool) (b : Bool) (s : ℕ) (d : Place) (l : List Answer) → either (not b) (is_service s) ≡ true → ((x : ℕ) → is_service x ≡ true → p x ≡ q x) → given p l ≡ given q l
    → given p (answer b s d ∷ l) ≡ given q (answer b s d ∷ l)
given_at p q false s d l h e i = i
given_at p q true s d l h e i = rw (e s h, i) refl

pub given_same : (p q : ℕ → Bool) (l : List Answer) → served l ≡ true → ((x : ℕ) → is_service x ≡ true → p x ≡ q x) → given p l ≡ given q l
given_same p q [] h e = refl
given_same p q (a ∷ l) h e =
    given_at p q a.present a.service a.date l (both_left _ (served l) h) e (given_same p q l (both_right (either (not a.present) (is_service a.service)) _ h) e)

-- ---- what is given and what is borne
bears_cons : (c : ℕ → Bool) (x : ℕ) (p : Bool) (s : ℕ) (d : Place) (l : List Answer) → bears (given c (answer p s d ∷ l)) x ≡ either (both (both p (c s)) (eqb s x)) (bears (given c l) x)
bears_cons c x false s d l = refl
bears_cons c x true s d l = cases (c s) (λ u. rw u refl) (λ u. rw u refl)

bears_at : (c : ℕ → Bool) (x : ℕ) (p : Bool) (s : ℕ) (d : Place) (l : List Answer) → bears (given c l) x ≡ both (bears l x) (c x) → either (both (both p (c s)) (eqb s x)) (bears (given c l) x) ≡ both (either (both p (eqb s x)) (bears l x)) (c x)
bears_at c x false s d l i = i
bears_at c x true s d l i =
    cases (eqb s x)
    (λ u. let z : c s ≡ c x = ap c (eqb-true s x u) in
    cases (c x)
    (λ v. rw (u, z, v) refl)
    (λ v. let y : bears (given c l) x ≡ false = i ∙ ap (λ (b : Bool). both (bears l x) b) v ∙ both_no (bears l x) in rw (u, z, v) y))
    (λ u. rw (u, both_no (c s)) i)

pub bears_given : (c : ℕ → Bool) (x : ℕ) (l : List Answer) → bears (given c l) x ≡ both (bears l x) (c x)
bears_given c x [] = refl
bears_given c x (a ∷ l) = bears_cons c x a.present a.service a.date l ∙ bears_at c x a.present a.service a.date l (bears_given c x l)

-- ---- the bits
bit_at : (l e q k : Bool) → (has_bit (bits_of l e q k) 1 ≡ l) × (has_bit (bits_of l e q k) 2 ≡ e) × (has_bit (bits_of l e q k) 4 ≡ q) × (has_bit (bits_of l e q k) 8 ≡ k)
unfolding bits_of has_bit
bit_at true true true true = (refl, refl, refl, refl)
bit_at true true true false = (refl, refl, refl, refl)
bit_at true true false true = (refl, refl, refl, refl)
bit_at true true false false = (refl, refl, refl, refl)
bit_at true false true true = (refl, refl, refl, refl)
bit_at true false true false = (refl, refl, refl, refl)
bit_at true false false true = (refl, refl, refl, refl)
bit_at true false false false = (refl, refl, refl, refl)
bit_at false true true true = (refl, refl, refl, refl)
bit_at false true true false = (refl, refl, refl, refl)
bit_at false true false true = (refl, refl, refl, refl)
bit_at false true false false = (refl, refl, refl, refl)
bit_at false false true true = (refl, refl, refl, refl)
bit_at false false true false = (refl, refl, refl, refl)
bit_at false false false true = (refl, refl, refl, refl)
bit_at false false false false = (refl, refl, refl, refl)

module _ (to : Target) (c : ℕ → Bool) where
  marks_over : (f : Tally → Bool) (x : ℕ) → ((a : Answer) (t : Tally) → f (tally_of to c a t) ≡ either (f t) (both (both a.present (c a.service)) (eqb a.service x))) → (l : List Answer) (t : Tally) → f (tally_over to c l t) ≡ either (f t) (bears (given c l) x)
  marks_over f x h [] t = sym (either_none (f t))
  marks_over f x h (a ∷ l) t =
      marks_over f x h l (tally_of to c a t)
      ∙ ap (λ (b : Bool). either b (bears (given c l) x)) (h a t)
      ∙ either_either (f t) (both (both a.present (c a.service)) (eqb a.service x)) (bears (given c l) x)
      ∙ ap (either (f t)) (sym (bears_cons c x a.present a.service a.date l))

  lotw_one : (p : Bool) (s : ℕ) (d : Place) (t : Tally) → (tally_of to c (answer p s d) t).lotw ≡ either t.lotw (both (both p (c s)) (eqb s 1))
  unfolding tally_of tally_with
  lotw_one true s d t = refl
  lotw_one false s d t = sym (either_none t.lotw)

  eqsl_one : (p : Bool) (s : ℕ) (d : Place) (t : Tally) → (tally_of to c (answer p s d) t).eqsl ≡ either t.eqsl (both (both p (c s)) (eqb s 2))
  unfolding tally_of tally_with
  eqsl_one true s d t = refl
  eqsl_one false s d t = sym (either_none t.eqsl)

  qrz_one : (p : Bool) (s : ℕ) (d : Place) (t : Tally) → (tally_of to c (answer p s d) t).qrz ≡ either t.qrz (both (both p (c s)) (eqb s 4))
  unfolding tally_of tally_with
  qrz_one true s d t = refl
  qrz_one false s d t = sym (either_none t.qrz)

  qsl_one : (p : Bool) (s : ℕ) (d : Place) (t : Tally) → (tally_of to c (answer p s d) t).qsl ≡ either t.qsl (both (both p (c s)) (eqb s 8))
  unfolding tally_of tally_with
  qsl_one true s d t = refl
  qsl_one false s d t = sym (either_none t.qsl)

  -- the bits of the services that counted, of a record that began with none
  pub services_over : (l : List Answer) (t : Tally) (s : ℕ) → is_service s ≡ true → has_bit (services_in (tally_over to c l (unmarked t))) s ≡ bears (given c l) s
  unfolding services_in unmarked
  services_over l t s h =
      let r = tally_over to c l (unmarked t) in
      let b = bit_at r.lotw r.eqsl r.qrz r.qsl in
      by_service (λ x. has_bit (bits_of r.lotw r.eqsl r.qrz r.qsl) x ≡ bears (given c l) x) s h
      (b.0 ∙ marks_over (λ x. x.lotw) 1 (λ a u. lotw_one a.present a.service a.date u) l (unmarked t))
      (b.1 ∙ marks_over (λ x. x.eqsl) 2 (λ a u. eqsl_one a.present a.service a.date u) l (unmarked t))
      (b.2 ∙ marks_over (λ x. x.qrz) 4 (λ a u. qrz_one a.present a.service a.date u) l (unmarked t))
      (b.3 ∙ marks_over (λ x. x.qsl) 8 (λ a u. qsl_one a.present a.service a.date u) l (unmarked t))
