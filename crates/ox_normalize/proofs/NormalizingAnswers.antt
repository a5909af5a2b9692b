-- The answers of `specs/Normalizing.antt`, by the verdict on the texts. Assumes nothing.
use Rattle.std.specs.Prelude.{⊤, Result, Ok, Err}
use mathlib.Core.Path.{◌≡◌, refl, sym, ◌∙◌}
use mathlib.Core.Bool.{Bool, true, false}
use mathlib.Core.List.{List}
use Prim.Native.Nat.{ℕ, ◌+◌, ◌≤◌}
use native.Mathlib.Omega.{arith}
use lib.ListN.{length}
use lib.Dec.{ltb}
use borrow.Author.Tests.{ltb-false}
use Rattle.text.specs.Pick.{pick}
use Rattle.text.specs.Utf8.{valid_up_to}
use Rattle.refusals.specs.Refusals.{of_texts}
use Rattle.refusals.specs.declared.Refusal.{Refusal}
use Rattle.refusals.specs.declared.Refusal.TheVariants.{TooLong, NotUtf8}

module _ (m s : List ℕ) (v : Result ⊤ Refusal) (e : v ≡ of_texts m s) (h : v ≡ Ok tt) where
  pub both_short : (length m ≤ 16777216) × (length s ≤ 16777216)
  unfolding of_texts
  both_short = by (ltb 16777216 (length m)) (ltb 16777216 (length s)) refl refl (sym e ∙ h)
    where
      by : (a b : Bool) → ltb 16777216 (length m) ≡ a → ltb 16777216 (length s) ≡ b
          → ◌≡◌ {A = Result ⊤ Refusal}
          (pick a (Err TooLong)
          (pick b (Err TooLong)
          (pick (ltb (valid_up_to m) (length m)) (Err (NotUtf8 (valid_up_to m)))
          (pick (ltb (valid_up_to s) (length s)) (Err (NotUtf8 (length m + valid_up_to s))) (Ok tt)))))
          (Ok tt)
          → (length m ≤ 16777216) × (length s ≤ 16777216)
      by true b p q r = absurd (let z : ◌≡◌ {A = ℕ} 0 1 = cc in omega arith)
      by false true p q r = absurd (let z : ◌≡◌ {A = ℕ} 0 1 = cc in omega arith)
      by false false p q r = (ltb-false 16777216 (length m) p, ltb-false 16777216 (length s) q)
