-- A walk down a chain, in search of what passes P. Assumes nothing.
use mathlib.Core.Path.{◌≡◌, refl, sym, ap, ◌∙◌}
use mathlib.Core.Bool.{Bool, true, false}
use Prim.Native.Nat.{ℕ, zero, suc, ◌-◌, ◌≤◌, ◌<◌}
use native.Mathlib.Omega.{arith}
use borrow.Author.Tests.{eqb-true, eq-eqb}
use Rattle.text.specs.Pick.{pick}
use Rattle.chain.specs.Chain.{over, any, down, first, or_else, in_bucket, Linked}
use Rattle.chain.proofs.Chains.{over_hit, over_miss, down_le, down_hit, skip}

-- at entry `at` (one more than its number): what is below it is still to be seen
pub record Any (P : ℕ → Bool) (bucket : ℕ → ℕ) (b k at : ℕ) : Type 0 where
  pub within : at ≤ k
  pub same : any P k ≡ any P at
  pub chain : (j : ℕ) → at ≡ suc j → bucket j ≡ b

pub record First (P : ℕ → Bool) (bucket : ℕ → ℕ) (b k at best : ℕ) : Type 0 where
  pub within : at ≤ k
  pub same : first P k ≡ or_else (first P at) best
  pub chain : (j : ℕ) → at ≡ suc j → bucket j ≡ b

less : (j : ℕ) → suc j - 1 ≡ j
less j = omega arith

or_none : (a : ℕ) → a ≡ or_else a 0
or_none zero = refl
or_none (suc a) = refl

pub or_or : (a j best : ℕ) → or_else (or_else a (suc j)) best ≡ or_else a (suc j)
or_or zero j best = refl
or_or (suc a) j best = refl

module _ (bucket : ℕ → ℕ) (n k : ℕ) (hd nx : ℕ → ℕ) (L : Linked bucket n k hd nx) (b : ℕ) (hb : b < n) (P : ℕ → Bool) (sub : (j : ℕ) → j < k → P j ≡ true → bucket j ≡ b) where
  below : {A : Type 0} (f : ℕ → A → A) (z : A) (m : ℕ) → m ≤ k → over P f z m ≡ over P f z (down (in_bucket bucket b) m)
  below f z m h = skip P (in_bucket bucket b) f z m (λ j l p. eq-eqb (bucket j) b (sub j (omega arith) p))

  -- the next entry after entry j of bucket b
  next_is : (j x : ℕ) → j < k → bucket j ≡ b → x ≡ nx j → x ≡ down (in_bucket bucket b) j
  next_is j x h e ex = ex ∙ L.nexts j h (omega arith) ∙ ap (λ (c : ℕ). down (in_bucket bucket c) j) e

  in_chain : (m x : ℕ) → x ≡ down (in_bucket bucket b) m → (j : ℕ) → x ≡ suc j → bucket j ≡ b
  in_chain m x e j f = eqb-true (bucket j) b (down_hit (in_bucket bucket b) m j (sym e ∙ f))

  pub any_start : (at : ℕ) → at ≡ hd b → Any P bucket b k at
  any_start at e =
      let d : at ≡ down (in_bucket bucket b) k = e ∙ L.heads b hb in
      record { within = omega (arith, down_le (in_bucket bucket b) k); same = below (λ j a. true) false k (omega arith) ∙ ap (any P) (sym d); chain = in_chain k at d }

  pub any_end : (at : ℕ) → Any P bucket b k at → at ≡ 0 → false ≡ any P k
  unfolding over
  any_end at A e = sym (A.same ∙ ap (any P) e)

  pub any_hit : (at : ℕ) (t : Bool) → Any P bucket b k at → (at ≡ 0 → ⊥) → t ≡ P (at - 1) → t ≡ true → true ≡ any P k
  any_hit zero t A n e f = absurd (n refl)
  any_hit (suc j) t A n e f = sym (A.same ∙ over_hit P (λ i a. true) false j (ap P (sym (less j)) ∙ sym e ∙ f))

  pub any_on : (at x : ℕ) (t : Bool) → Any P bucket b k at → (at ≡ 0 → ⊥) → t ≡ P (at - 1) → t ≡ false → x ≡ nx (at - 1) → Any P bucket b k x
  any_on zero x t A n e f g = absurd (n refl)
  any_on (suc j) x t A n e f g =
      let l : j < k = omega (arith, A.within) in
      let d : x ≡ down (in_bucket bucket b) j = next_is j x l (A.chain j refl) (rw (less j) at g) in
      record {
        within = omega (arith, down_le (in_bucket bucket b) j);
        same = A.same ∙ over_miss P (λ i a. true) false j (ap P (sym (less j)) ∙ sym e ∙ f) ∙ below (λ i a. true) false j (omega arith) ∙ ap (any P) (sym d);
        chain = in_chain j x d;
      }

  pub first_start : (at : ℕ) → at ≡ hd b → First P bucket b k at 0
  first_start at e =
      let d : at ≡ down (in_bucket bucket b) k = e ∙ L.heads b hb in
      record {
        within = omega (arith, down_le (in_bucket bucket b) k);
        same = below (λ j a. or_else a (suc j)) 0 k (omega arith) ∙ ap (first P) (sym d) ∙ or_none (first P at);
        chain = in_chain k at d;
      }

  pub first_end : (at best : ℕ) → First P bucket b k at best → at ≡ 0 → best ≡ first P k
  unfolding over
  first_end at best A e = sym (A.same ∙ ap (λ (m : ℕ). or_else (first P m) best) e)

  first_step : (j best : ℕ) (t : Bool) → P j ≡ t → or_else (first P (suc j)) best ≡ or_else (first P j) (pick t (suc j) best)
  first_step j best true e = ap (λ (m : ℕ). or_else m best) (over_hit P (λ i a. or_else a (suc i)) 0 j e) ∙ or_or (first P j) j best
  first_step j best false e = ap (λ (m : ℕ). or_else m best) (over_miss P (λ i a. or_else a (suc i)) 0 j e)

  pub first_on : (at best x y : ℕ) (t : Bool) → First P bucket b k at best → (at ≡ 0 → ⊥) → t ≡ P (at - 1) → y ≡ pick t at best → x ≡ nx (at - 1) → First P bucket b k x y
  first_on zero best x y t A n e f g = absurd (n refl)
  first_on (suc j) best x y t A n e f g =
      let l : j < k = omega (arith, A.within) in
      let d : x ≡ down (in_bucket bucket b) j = next_is j x l (A.chain j refl) (rw (less j) at g) in
      record {
        within = omega (arith, down_le (in_bucket bucket b) j);
        same = A.same ∙ first_step j best t (ap P (sym (less j)) ∙ sym e) ∙ ap (λ (m : ℕ). or_else m (pick t (suc j) best)) (below (λ i a. or_else a (suc i)) 0 j (omega arith)) ∙ rw (← d, ← f);
        chain = in_chain j x d;
      }

  pub next_less : (at x : ℕ) → at ≤ k → ((j : ℕ) → at ≡ suc j → bucket j ≡ b) → (at ≡ 0 → ⊥) → x ≡ nx (at - 1) → x < at
  next_less zero x h ch n g = absurd (n refl)
  next_less (suc j) x h ch n g = omega (arith, next_is j x (omega arith) (ch j refl) (rw (less j) at g), down_le (in_bucket bucket b) j)
