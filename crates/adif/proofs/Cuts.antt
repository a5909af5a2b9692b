-- A search for a byte, by what stands before it. Assumes nothing.
use mathlib.Core.Path.{◌≡◌, refl, sym, ap, ◌∙◌}
use mathlib.Core.Bool.{Bool, true, false}
use mathlib.Core.List.{List, [], ◌∷◌, ◌++◌}
use Prim.Native.Nat.{ℕ, suc, ◌+◌}
use native.Mathlib.Nat.{zero-add}
use native.Mathlib.Omega.{arith}
use lib.ListN.{length, take, drop}
use lib.Seq.{take-length, take-append_seam, drop-append_seam, drop-drop}
use lib.Dec.{eqb}
use borrow.Author.Tests.{eq-eqb, ne_eqb, eqb-true, eqb-false}
use Rattle.text.specs.Walk.{lead, ends}
use Rattle.text.specs.Find.{other}
use Rattle.adif.specs.Grammar.{Without, Cut, all, upto}

-- the first b, or none
pub data Split (b : ℕ) : List ℕ → Type 0 where
  none : {xs : List ℕ} → Without b xs → Split b xs
  found : {xs : List ℕ} (pre post : List ℕ) → Without b pre → xs ≡ pre ++ b ∷ post → Split b xs

pub split : (b : ℕ) (xs : List ℕ) → Split b xs
split b [] = none tt
split b (x ∷ xs) = here (eqb x b) refl (split b xs)
  where
    here : (t : Bool) → eqb x b ≡ t → Split b xs → Split b (x ∷ xs)
    here true e r = found [] xs tt (ap (λ (y : ℕ). y ∷ xs) (eqb-true x b e))
    here false e (none w) = none {xs = x ∷ xs} (eqb-false x b e, w)
    here false e (found pre post w q) = found (x ∷ pre) post (eqb-false x b e, w) (ap (λ (l : List ℕ). x ∷ l) q)

one_add : (n : ℕ) → 1 + n ≡ suc n
one_add n = omega arith

-- how far the search goes
pub lead_found : (b : ℕ) (pre post : List ℕ) → Without b pre → lead (other b) (pre ++ b ∷ post) ≡ length pre
unfolding lead other
lead_found b [] post w = simp (eq-eqb b b refl)
lead_found b (x ∷ pre) post w = simp (ne_eqb x b w.0) (ap (λ (k : ℕ). 1 + k) (lead_found b pre post w.1) ∙ one_add (length pre))

pub lead_none : (b : ℕ) (xs : List ℕ) → Without b xs → lead (other b) xs ≡ length xs
unfolding lead other
lead_none b [] w = refl
lead_none b (x ∷ xs) w = simp (ne_eqb x b w.0) (ap (λ (k : ℕ). 1 + k) (lead_none b xs w.1) ∙ one_add (length xs))

-- the same at a place of s
module _ (s : List ℕ) (at : ℕ) where
  pub ends_found : (b : ℕ) (pre post : List ℕ) → Without b pre → drop at s ≡ pre ++ b ∷ post → ends (other b) s at ≡ at + length pre
  unfolding ends
  ends_found b pre post w e = rw (e, lead_found b pre post w)

  pub ends_none : (b : ℕ) → Without b (drop at s) → ends (other b) s at ≡ at + length (drop at s)
  unfolding ends
  ends_none b w = rw (lead_none b (drop at s) w)

  pub drop_on : (pre post : List ℕ) (n : ℕ) → drop at s ≡ pre ++ post → n ≡ length pre → drop (at + n) s ≡ post
  drop_on pre post n e q = sym (drop-drop n at s) ∙ rw (e, q) (drop-append_seam pre post)

  pub drop_past : (pre post : List ℕ) (b : ℕ) → drop at s ≡ pre ++ b ∷ post → drop (at + length pre + 1) s ≡ post
  drop_past pre post b e = sym (drop-drop 1 (at + length pre) s) ∙ rw (drop_on pre (b ∷ post) (length pre) e refl)

-- at the front of a list
pub front_found : (b : ℕ) (pre post : List ℕ) → Without b pre → ends (other b) (pre ++ b ∷ post) 0 ≡ length pre
front_found b pre post w = ends_found (pre ++ b ∷ post) 0 b pre post w refl ∙ zero-add (length pre)

pub front_none : (b : ℕ) (xs : List ℕ) → Without b xs → ends (other b) xs 0 ≡ length xs
front_none b xs w = ends_none xs 0 b w ∙ zero-add (length xs)

-- what stands before the first b
pub cut_is : (b : ℕ) {xs pre : List ℕ} → Cut b xs pre → take (ends (other b) xs 0) xs ≡ pre
cut_is b {xs} (all w) = rw (front_none b xs w) (take-length xs)
cut_is b (upto {pre = pre} post w e) = rw (e, front_found b pre post w) (take-append_seam pre (b ∷ post))

pub cut_of : (b : ℕ) {xs : List ℕ} → Split b xs → (pre : List ℕ) × Cut b xs pre
cut_of b {xs} (none w) = (xs, all w)
cut_of b (found pre post w e) = (pre, upto post w e)
