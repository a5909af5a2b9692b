-- Trimming twice is trimming once. Assumes nothing.
use mathlib.Core.Path.{◌≡◌, refl, sym, ap, ◌∙◌}
use mathlib.Core.Bool.{Bool, true, false}
use mathlib.Core.List.{List, [], ◌∷◌, ◌++◌, reverse, reverse-append}
use Prim.Native.Nat.{ℕ, zero, suc, ◌-◌, ◌≤◌, ◌<◌}
use native.Mathlib.Nat.{not-suc-le-zero, le_of_suc-le-suc, suc-add}
use native.Mathlib.Numerals.{sub-one}
use native.Mathlib.Omega.{arith}
use lib.ListN.{length, get_or, take, drop, take-append-drop, length-drop, length-reverse}
use lib.Seq.{take-length, drop_at, drop-drop}
use Rattle.text.specs.Space.{space1, space2, space3, space80, space_len, space_back, width, trim_start, trim_end, trimmed}
use Rattle.text.specs.Walk.{onward, walk, lead}
use Rattle.text.proofs.Walks.{stops, lead_le}
use Rattle.text.proofs.SpaceLaws.{none2, none3, front_within, back_within}

-- ---- a walk stops where its next step is none
module _ (h : List ℕ → ℕ) (none : h [] ≡ 0) (fits : (xs : List ℕ) → 0 < length xs → h xs ≤ length xs) where
  walk_end : (f : ℕ) (xs : List ℕ) → length xs ≤ f → h (drop (walk h f xs) xs) ≡ 0
  walk_end zero [] b = none
  walk_end zero (x ∷ xs) b = absurd (not-suc-le-zero b)
  walk_end (suc f) [] b = none
  walk_end (suc f) (x ∷ xs) b = by (h (x ∷ xs)) refl (fits (x ∷ xs) (omega arith)) (λ ys l. walk_end f ys l)
    where
      by : (k : ℕ) → h (x ∷ xs) ≡ k → k ≤ suc (length xs) → ((ys : List ℕ) → length ys ≤ f → h (drop (walk h f ys) ys) ≡ 0)
          → h (drop (onward k (walk h f (drop (k - 1) xs))) (x ∷ xs)) ≡ 0
      by zero e l again = e
      by (suc k) e l again =
          let r : h (drop (walk h f (drop k xs)) (drop k xs)) ≡ 0 = again (drop k xs) (simp length-drop (omega (arith, le_of_suc-le-suc b))) in
          simp (sub-one, suc-add) (rw drop-drop at r)

  pub lead_end : (xs : List ℕ) → h (drop (lead h xs) xs) ≡ 0
  unfolding lead
  lead_end xs = walk_end (length xs) xs (omega arith)

-- ---- no white space at the front, and none there if the end is cut
width_none : (p q r : Bool) → width p q r ≡ 0 → (p ≡ false) × (q ≡ false) × (r ≡ false)
unfolding width
width_none true q r e = absurd (omega arith)
width_none false true r e = absurd (omega arith)
width_none false false true e = absurd (omega arith)
width_none false false false e = (refl, refl, refl)

no_front : space_len [] ≡ 0
unfolding space_len width space1 space2 space3 space80
no_front = refl

no_back : space_back [] ≡ 0
unfolding space_back width space1 space2 space3 space80
no_back = refl

front_cut : (n : ℕ) (xs : List ℕ) → space_len xs ≡ 0 → space_len (take n xs) ≡ 0
unfolding space_len width
front_cut zero xs e = no_front
front_cut (suc n) [] e = e
front_cut (suc zero) (a ∷ xs) e =
    let w = width_none (space1 a) (space2 a (get_or xs 0 0)) (space3 a (get_or xs 0 0) (get_or xs 1 0)) e in
    rw (w.0, none2, none3) refl
front_cut (suc (suc n)) (a ∷ []) e = e
front_cut (suc (suc zero)) (a ∷ b ∷ xs) e =
    let w = width_none (space1 a) (space2 a b) (space3 a b (get_or xs 0 0)) e in
    rw (w.0, w.1, none3) refl
front_cut (suc (suc (suc n))) (a ∷ b ∷ []) e = e
front_cut (suc (suc (suc n))) (a ∷ b ∷ c ∷ xs) e = e

-- ---- the end of a list, read backwards
reverse_take : (xs : List ℕ) (b : ℕ) → b ≤ length xs → reverse (take (length xs - b) xs) ≡ drop b (reverse xs)
reverse_take xs b h =
    let e : reverse xs ≡ reverse (drop (length xs - b) xs) ++ reverse (take (length xs - b) xs) =
    ap reverse (sym (take-append-drop (length xs - b) xs)) ∙ reverse-append (take (length xs - b) xs) (drop (length xs - b) xs)
    in
    let l : length (reverse (drop (length xs - b) xs)) ≡ b = length-reverse (drop (length xs - b) xs) ∙ length-drop (length xs - b) xs ∙ omega arith in
    rw e (sym (drop_at (reverse (drop (length xs - b) xs)) (reverse (take (length xs - b) xs)) b l))

module _ (xs : List ℕ) where
  -- nothing is left to trim: not at the front, not at the end
  pub trimmed_start : trim_start (trimmed xs) ≡ 0
  unfolding trimmed trim_start
  trimmed_start =
      stops space_len (trimmed xs) (front_cut (trim_end (drop (trim_start xs) xs)) (drop (trim_start xs) xs) (lead_end space_len no_front front_within xs))

  trimmed_end : trim_end (trimmed xs) ≡ length (trimmed xs)
  unfolding trimmed trim_end
  trimmed_end =
      let le : lead space_back (reverse (drop (trim_start xs) xs)) ≤ length (drop (trim_start xs) xs) =
      rw length-reverse at (lead_le space_back back_within (reverse (drop (trim_start xs) xs)))
      in
      let z : lead space_back (reverse (trimmed xs)) ≡ 0 =
      stops space_back (reverse (trimmed xs))
      (rw (reverse_take (drop (trim_start xs) xs) (lead space_back (reverse (drop (trim_start xs) xs))) le)
      (lead_end space_back no_back back_within (reverse (drop (trim_start xs) xs))))
      in
      rw z (omega arith)

  pub trim_twice : trimmed (trimmed xs) ≡ trimmed xs
  unfolding trimmed
  trim_twice = rw (trimmed_start, trimmed_end) (take-length (trimmed xs))
