-- Laws of a walk (`specs/Walk.antt`): a step of it, and its end. Assumes nothing.
use mathlib.Core.Path.{◌≡◌, refl, sym, ap, ◌∙◌}
use Prim.Native.Nat.{ℕ, zero, suc, ◌+◌, ◌-◌, ◌≤◌, ◌<◌}
use native.Mathlib.Nat.{not-suc-le-zero, le_of_suc-le-suc, add_assoc, add-zero, le_refl}
use native.Mathlib.Numerals.{sub-one}
use native.Mathlib.Omega.{arith}
use mathlib.Core.List.{List, [], ◌∷◌}
use lib.ListN.{length, drop, length-drop, drop_of_length-le}
use lib.Seq.{drop-drop}
use Rattle.text.specs.Walk.{onward, walk, lead, ends}

module _ (h : List ℕ → ℕ) where
  -- fuel beyond the length changes nothing
  same : (f g : ℕ) (xs : List ℕ) → length xs ≤ f → length xs ≤ g → walk h f xs ≡ walk h g xs
  same zero zero xs a b = refl
  same zero (suc g) [] a b = refl
  same zero (suc g) (x ∷ xs) a b = absurd (not-suc-le-zero a)
  same (suc f) zero [] a b = refl
  same (suc f) zero (x ∷ xs) a b = absurd (not-suc-le-zero b)
  same (suc f) (suc g) [] a b = refl
  same (suc f) (suc g) (x ∷ xs) a b =
      ap (onward (h (x ∷ xs)))
      (same f g (drop (h (x ∷ xs) - 1) xs)
      (simp length-drop (omega (arith, le_of_suc-le-suc a)))
      (simp length-drop (omega (arith, le_of_suc-le-suc b))))

  pub stops : (xs : List ℕ) → h xs ≡ 0 → lead h xs ≡ 0
  unfolding lead
  stops [] e = refl
  stops (x ∷ xs) e = ap (λ (k : ℕ). onward k (walk h (length xs) (drop (h (x ∷ xs) - 1) xs))) e

  pub steps : (xs : List ℕ) (k : ℕ) → h xs ≡ suc k → suc k ≤ length xs → lead h xs ≡ suc k + lead h (drop (suc k) xs)
  unfolding lead
  steps [] k e b = absurd (not-suc-le-zero b)
  steps (x ∷ xs) k e b =
      rw e
      (simp sub-one
      (ap (λ (r : ℕ). suc k + r)
      (same (length xs) (length (drop k xs)) (drop k xs) (simp length-drop (omega arith)) (le_refl _))))

  -- a walk from i ends at a: what a loop carries. It ends here, goes on, or is at the end of the list
  pub here : (s : List ℕ) (i w a : ℕ) → w ≡ h (drop i s) → w ≡ 0 → ends h s i ≡ a → i ≡ a
  unfolding ends
  here s i w a e z q = sym (ap (λ (k : ℕ). i + k) (stops (drop i s) (sym e ∙ z)) ∙ add-zero i) ∙ q

  pub on : (s : List ℕ) (i w a : ℕ) → w ≡ h (drop i s) → (w ≡ 0 → ⊥) → i + w ≤ length s → ends h s i ≡ a → ends h s (i + w) ≡ a
  unfolding ends
  on s i zero a e n b q = absurd (n refl)
  on s i (suc k) a e n b q =
      rw (← drop-drop)
      (add_assoc i (suc k) _ ∙ ap (λ (r : ℕ). i + r) (sym (steps (drop i s) k (sym e) (omega (arith, length-drop i s)))) ∙ q)

  pub out : (s : List ℕ) (i a : ℕ) → length s ≤ i → ends h s i ≡ a → i ≡ a
  unfolding ends lead
  out s i a b q = sym (simp (drop_of_length-le s b, add-zero)) ∙ q

  -- a walk whose steps end within the list does so itself
  pub lead_le : ((xs : List ℕ) → 0 < length xs → h xs ≤ length xs) → (xs : List ℕ) → lead h xs ≤ length xs
  unfolding lead
  lead_le w xs = go (length xs) xs
    where
      one : (k f n r : ℕ) → k ≤ suc n → r ≤ n - (k - 1) → onward k r ≤ suc n
      one zero f n r p q = omega arith
      one (suc k) f n r p q = omega arith

      go : (f : ℕ) (xs : List ℕ) → walk h f xs ≤ length xs
      go zero xs = omega arith
      go (suc f) [] = omega arith
      go (suc f) (x ∷ xs) =
          let i : walk h f (drop (h (x ∷ xs) - 1) xs) ≤ length (drop (h (x ∷ xs) - 1) xs) = go f (drop (h (x ∷ xs) - 1) xs) in
          one (h (x ∷ xs)) f (length xs) (walk h f (drop (h (x ∷ xs) - 1) xs)) (w (x ∷ xs) (omega arith)) (rw length-drop at i)
