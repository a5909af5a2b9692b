-- Laws of `specs/Same.antt`: the test says what it seems to say. Assumes nothing.
use mathlib.Core.Path.{◌≡◌, refl, sym, ap}
use mathlib.Core.Bool.{Bool, true, false}
use mathlib.Core.List.{List, [], ◌∷◌}
use Prim.Native.Nat.{ℕ, suc}
use native.Mathlib.Omega.{arith}
use lib.ListN.{length}
use lib.Dec.{eqb}
use borrow.Author.Tests.{eq-eqb, eqb-true}
use Rattle.text.specs.Pick.{both}
use Rattle.text.proofs.BoolLaws.{both_no}
use Rattle.letters.specs.Capitals.{raised, capitals}
use Rattle.letters.specs.Same.{same, same_raised}

-- the test is true of equal texts, and of no others
pub same_refl : (xs : List ℕ) → same xs xs ≡ true
same_refl [] = refl
same_refl (x ∷ xs) = simp (eq-eqb x x refl) (same_refl xs)

pub same_true : (xs ys : List ℕ) → same xs ys ≡ true → xs ≡ ys
same_true [] [] e = refl
same_true [] (y ∷ ys) e = absurd (let z : ◌≡◌ {A = ℕ} 0 1 = cc in omega arith)
same_true (x ∷ xs) [] e = absurd (let z : ◌≡◌ {A = ℕ} 0 1 = cc in omega arith)
same_true (x ∷ xs) (y ∷ ys) e = by (eqb x y) refl e (λ q. same_true xs ys q)
  where
    by : (t : Bool) → eqb x y ≡ t → both t (same xs ys) ≡ true → (same xs ys ≡ true → xs ≡ ys) → x ∷ xs ≡ y ∷ ys
    by true p q k =
        let h : x ≡ y = eqb-true x y p in
        let r : xs ≡ ys = k q in
        cc
    by false p q k = absurd (let z : ◌≡◌ {A = ℕ} 0 1 = cc in omega arith)

pub same_raised_true : (xs ys : List ℕ) → same_raised xs ys ≡ true → capitals xs ≡ capitals ys
unfolding same_raised
same_raised_true xs ys e = same_true (capitals xs) (capitals ys) e

pub lengths_differ : (xs ys : List ℕ) → (length xs ≡ length ys → ⊥) → false ≡ same xs ys
lengths_differ [] [] h = absurd (h refl)
lengths_differ [] (y ∷ ys) h = refl
lengths_differ (x ∷ xs) [] h = refl
lengths_differ (x ∷ xs) (y ∷ ys) h = rw (← lengths_differ xs ys (λ e. h (ap suc e))) (sym (both_no (eqb x y)))

pub lengths_differ_raised : (xs ys : List ℕ) → (length xs ≡ length ys → ⊥) → false ≡ same_raised xs ys
unfolding same_raised
lengths_differ_raised [] [] h = absurd (h refl)
lengths_differ_raised [] (y ∷ ys) h = refl
lengths_differ_raised (x ∷ xs) [] h = refl
lengths_differ_raised (x ∷ xs) (y ∷ ys) h =
    rw (← lengths_differ_raised xs ys (λ e. h (ap suc e))) (sym (both_no (eqb (raised x) (raised y))))
