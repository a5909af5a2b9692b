-- A run, by its first step. Assumes nothing.
use mathlib.Core.Path.{◌≡◌, refl}
use Prim.Native.Nat.{ℕ, zero, suc, ◌-◌, ◌≤◌, ◌<◌}
use native.Mathlib.Nat.{not-suc-le-zero}
use native.Mathlib.Omega.{arith}
use Rattle.text.specs.Run.{Next, go, stop, follow, steps, run}

-- what goes on goes forward, within n
abbrev pub Onward : {S R : Type 0} → ℕ → ℕ → Next S R → Type 0
Onward n at (go a t) = (at < a) × (a ≤ n)
Onward n at (stop r) = Unit

module _ {S R : Type 0} (n at : ℕ) (k k' : ℕ → S → R) (h : (a : ℕ) (t : S) → at < a → a ≤ n → k a t ≡ k' a t) where
  follow_same : (x : Next S R) → Onward n at x → follow k x ≡ follow k' x
  follow_same (go a t) p = h a t p.0 p.1
  follow_same (stop r) p = refl

module _ {S R : Type 0} (step : ℕ → S → Next S R) (d : R) (n : ℕ) (fw : (at : ℕ) (st : S) → Onward n at (step at st)) where
  same : (f g at : ℕ) (st : S) → n - at < f → n - at < g → steps step d f at st ≡ steps step d g at st
  same zero g at st a b = absurd (not-suc-le-zero a)
  same (suc f) zero at st a b = absurd (not-suc-le-zero b)
  same (suc f) (suc g) at st a b =
      follow_same n at (steps step d f) (steps step d g) (λ x t p q. same f g x t (omega arith) (omega arith)) (step at st) (fw at st)

  pub run_step : (at : ℕ) (st : S) → run step d n at st ≡ follow (run step d n) (step at st)
  unfolding run
  run_step at st =
      follow_same n at (steps step d (n - at)) (run step d n) (λ x t p q. same (n - at) (suc (n - x)) x t (omega arith) (omega arith))
      (step at st)
      (fw at st)
