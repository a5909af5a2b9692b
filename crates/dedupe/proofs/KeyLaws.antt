-- What two places stand for compares as the bytes that are shown of them do. Assumes nothing.
use mathlib.Core.Path.{◌≡◌, refl, sym, ◌∙◌}
use mathlib.Core.Bool.{Bool, true, false}
use mathlib.Core.List.{List, [], ◌∷◌}
use Prim.Native.Nat.{ℕ, suc, ◌+◌, ◌≤◌, ◌<◌}
use native.Mathlib.Numerals.{add-one}
use native.Mathlib.Omega.{arith}
use lib.ListN.{length, get_or, drop, drop_of_length-le, length-map}
use lib.Seq.{drop-cons}
use borrow.Author.Tests.{eq-eqb, ne_eqb}
use Rattle.text.specs.Pick.{pick}
use Rattle.letters.specs.Capitals.{raised}
use Rattle.letters.specs.Same.{same}
use Rattle.letters.proofs.SameLaws.{lengths_differ}
use Rattle.dedupe.specs.Views.{cased}

-- ---- two texts, each as it stands or in capitals
cased_length : (r : Bool) (xs : List ℕ) → length (cased r xs) ≡ length xs
unfolding cased
cased_length true xs = length-map xs raised
cased_length false xs = refl

cased_cons : (r : Bool) (x : ℕ) (xs : List ℕ) → cased r (x ∷ xs) ≡ pick r (raised x) x ∷ cased r xs
unfolding cased
cased_cons true x xs = refl
cased_cons false x xs = refl

cased_empty : (r : Bool) → cased r [] ≡ []
unfolding cased
cased_empty true = refl
cased_empty false = refl

module _ (a b : List ℕ) (ar br : Bool) where
  pub cased_differ : (length a ≡ length b → ⊥) → false ≡ same (cased ar a) (cased br b)
  cased_differ h = lengths_differ (cased ar a) (cased br b) (λ e. h (sym (cased_length ar a) ∙ e ∙ cased_length br b))

  module _ (i : ℕ) (r : Bool) (q : same (cased ar (drop i a)) (cased br (drop i b)) ≡ r) where
    module _ (x y : ℕ) (h : i < length a) (l : length a ≡ length b) (ex : x ≡ pick ar (raised (get_or a i 0)) (get_or a i 0)) (ey : y ≡ pick br (raised (get_or b i 0)) (get_or b i 0)) where
      cut : same (x ∷ cased ar (drop (suc i) a)) (y ∷ cased br (drop (suc i) b)) ≡ r
      cut =
          let k : i < length b = omega arith in
          let q' : same (cased ar (get_or a i 0 ∷ drop (suc i) a)) (cased br (get_or b i 0 ∷ drop (suc i) b)) ≡ r = rw (drop-cons a i 0 h, drop-cons b i 0 k) at q in
          rw (cased_cons ar (get_or a i 0) (drop (suc i) a), cased_cons br (get_or b i 0) (drop (suc i) b), ← ex, ← ey) at q'

      pub cased_apart : (x ≡ y → ⊥) → false ≡ r
      cased_apart n = simp (ne_eqb x y n) at cut

      pub cased_agree : x ≡ y → same (cased ar (drop (i + 1) a)) (cased br (drop (i + 1) b)) ≡ r
      cased_agree n = rw add-one (simp (eq-eqb x y n) at cut)

    pub cased_ended : length a ≤ i → length a ≡ length b → true ≡ r
    cased_ended h l = simp (drop_of_length-le a h, drop_of_length-le b {i = i} (omega arith), cased_empty ar, cased_empty br) at q
