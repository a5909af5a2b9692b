-- One answer more, and what a record confirms. Assumes nothing.
use mathlib.Core.Path.{◌≡◌, refl, sym}
use mathlib.Core.Bool.{Bool, true, false}
use mathlib.Core.List.{List, [], ◌∷◌}
use Prim.Native.Nat.{ℕ, ◌+◌, ◌*◌, ◌≤◌}
use lib.Dec.{eqb}
use lib.ListN.{length, get_or, set}
use lib.Seq.{set_out}
use borrow.Author.Tests.{eq-eqb, ne_eqb}
use Rattle.text.specs.Pick.{both, either}
use Rattle.contacts.specs.Lists.{id_at, services_at}
use Rattle.index.specs.Rows.{low, high}
use Rattle.confirmations.specs.declared.Answer.{Answer}
use Rattle.plan.proofs.CountLaws.{byte_is}
use mir.Val.{bool_byte}
use Rattle.tallies.specs.declared.Tally.{Tally}
use Rattle.tallies.specs.declared.Target.{Target}
use Rattle.tallies.specs.Tallies.{target, target_in, target_of, is_new, is_old, is_lost, tally_with, card_for, bits_of, services_in}

pub target_is : (s : List ℕ) (place id services lo hi : ℕ) → id ≡ id_at s place → services ≡ get_or s (place + 10) 0 → lo ≡ low id → hi ≡ high id → target true services lo hi ≡ target_in s place
unfolding target_in services_at
target_is s place id services lo hi ei es el eh = rw (es, el, eh, ei) refl

module _ (s : List ℕ) (fate hit place : ℕ) where
  pub target_zero : fate ≡ 5 → hit ≡ 0 → target true 0 0 0 ≡ target_of s fate hit place
  unfolding target_of
  target_zero f h = rw (eq-eqb fate 5 f, eq-eqb hit 0 h) refl

  pub target_found : (x : Target) → fate ≡ 5 → (hit ≡ 0 → ⊥) → x ≡ target_in s place → x ≡ target_of s fate hit place
  unfolding target_of
  target_found x f h e = rw (eq-eqb fate 5 f, ne_eqb hit 0 h) e

  pub target_none : (fate ≡ 5 → ⊥) → target false 0 0 0 ≡ target_of s fate hit place
  unfolding target_of
  target_none f = rw (ne_eqb fate 5 f) refl

pub tally_is : (to : Target) (counts : Bool) (s : ℕ) (t : Tally) (n o l : Bool) (used already unmatched : ℕ) (a la b eb d qb f cb : Bool)
    → n ≡ is_new to counts s → used ≡ bool_byte n → o ≡ is_old to counts s → already ≡ bool_byte o → l ≡ is_lost to counts → unmatched ≡ bool_byte l
    → a ≡ both counts (eqb s 1) → la ≡ either t.lotw a → b ≡ both counts (eqb s 2) → eb ≡ either t.eqsl b → d ≡ both counts (eqb s 4) → qb ≡ either t.qrz d → f ≡ both counts (eqb s 8) → cb ≡ either t.qsl f
    → (record { used = t.used + used; already = t.already + already; unmatched = t.unmatched + unmatched; lotw = la; eqsl = eb; qrz = qb; qsl = cb }) ≡ tally_with to counts s t
unfolding tally_with
tally_is to counts s t n o l used already unmatched a la b eb d qb f cb en eu eo ea el em e1 f1 e2 f2 e4 f4 e8 f8 =
    rw (eu, ea, em, byte_is n, byte_is o, byte_is l, en, eo, el, f1, e1, f2, e2, f4, e4, f8, e8) refl

pub card_is : (to : Target) (a : Answer) → to.low ∷ to.high ∷ a.service ∷ a.date.start ∷ a.date.len ∷ [] ≡ card_for to a
unfolding card_for
card_is to a = refl

pub put_in : (cards : List (List ℕ)) (at : ℕ) (to : Target) (a : Answer) (x : List ℕ) → x ≡ card_for to a → set cards at x ≡ set cards at (card_for to a)
put_in cards at to a x e = rw e refl

pub put_out : (cards : List (List ℕ)) (at : ℕ) (to : Target) (a : Answer) → length cards ≤ at → cards ≡ set cards at (card_for to a)
put_out cards at to a h = sym (set_out cards at (card_for to a) h)

pub services_are : (t : Tally) (a b d f : ℕ) → a ≡ bool_byte t.lotw → b ≡ bool_byte t.eqsl → d ≡ bool_byte t.qrz → f ≡ bool_byte t.qsl → a + b * 2 + d * 4 + f * 8 ≡ services_in t
unfolding services_in bits_of
services_are t a b d f ea eb ed ef = rw (ea, eb, ed, ef, byte_is t.lotw, byte_is t.eqsl, byte_is t.qrz, byte_is t.qsl) refl
