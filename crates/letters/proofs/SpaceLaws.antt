-- Raising letters changes no white space, so that raising and trimming commute. Assumes nothing.
use mathlib.Core.Path.{◌≡◌, refl, sym, ap, ◌∙◌}
use mathlib.Core.Bool.{Bool, true, false}
use mathlib.Core.Logic.{◌⊎◌, inl, inr, ⊎_elim}
use mathlib.Core.List.{List, [], ◌∷◌, reverse, reverse_aux}
use Prim.Native.Nat.{ℕ, zero, suc, ◌-◌, ◌≤◌, ◌<◌}
use native.Mathlib.Omega.{arith}
use lib.Dec.{leb, eqb}
use lib.ListN.{length, get_or, take, drop, length-map, get_or-map}
use borrow.Author.Tests.{ne_eqb, lt-leb, leb-true}
use Rattle.text.specs.Pick.{pick, within}
use Rattle.text.specs.Space.{space1, space2, space3, space80, space_len, space_back, trim_start, trim_end, trimmed, blank}
use Rattle.text.specs.Walk.{walk, lead}
use Rattle.text.proofs.BoolLaws.{both_left, both_right, both_no}
use Rattle.letters.specs.Capitals.{raised, capitals}

-- ---- raising changes no test of a byte that is no letter
raised_is : (a : ℕ) (t : Bool) → within a 0x61 0x7A ≡ t → raised a ≡ pick t (a - 0x20) a
unfolding raised
raised_is a t e = rw e refl

letter : (a : ℕ) → within a 0x61 0x7A ≡ true → (0x61 ≤ a) × (a ≤ 0x7A)
letter a e = (leb-true 0x61 a (both_left (leb 0x61 a) (leb a 0x7A) e), leb-true a 0x7A (both_right (leb 0x61 a) (leb a 0x7A) e))

-- c is no letter, nor is any number from lo to hi
abbrev pub Off : ℕ → ℕ → Type 0
Off lo hi = (hi < 0x41) ⊎ (0x7A < lo)

eqb_raised : (a c : ℕ) → Off c c → eqb (raised a) c ≡ eqb a c
eqb_raised a c o = by (within a 0x61 0x7A) refl
  where
    by : (t : Bool) → within a 0x61 0x7A ≡ t → eqb (raised a) c ≡ eqb a c
    by false e = rw (raised_is a false e) refl
    by true e =
        let l = letter a e in
        rw (raised_is a true e)
        (ne_eqb (a - 0x20) c (λ z. ⊎_elim (λ m. omega arith) (λ m. omega arith) o)
        ∙ sym (ne_eqb a c (λ z. ⊎_elim (λ m. omega arith) (λ m. omega arith) o)))

within_off : (x lo hi : ℕ) → (x < lo) ⊎ (hi < x) → within x lo hi ≡ false
within_off x lo hi o = ⊎_elim (λ m. rw (lt-leb lo x m) refl) (λ m. rw (lt-leb x hi m) (both_no (leb lo x))) o

pub within_raised : (a lo hi : ℕ) → Off lo hi → within (raised a) lo hi ≡ within a lo hi
within_raised a lo hi o = by (within a 0x61 0x7A) refl
  where
    by : (t : Bool) → within a 0x61 0x7A ≡ t → within (raised a) lo hi ≡ within a lo hi
    by false e = rw (raised_is a false e) refl
    by true e =
        let l = letter a e in
        rw (raised_is a true e)
        (within_off (a - 0x20) lo hi (⊎_elim (λ m. inr (omega arith)) (λ m. inl (omega arith)) o)
        ∙ sym (within_off a lo hi (⊎_elim (λ m. inr (omega arith)) (λ m. inl (omega arith)) o)))

space1_raised : (a : ℕ) → space1 (raised a) ≡ space1 a
unfolding space1
space1_raised a = rw (within_raised a 0x09 0x0D (inl (omega arith)), eqb_raised a 0x20 (inl (omega arith))) refl

space2_raised : (a b : ℕ) → space2 (raised a) (raised b) ≡ space2 a b
unfolding space2
space2_raised a b = rw (eqb_raised a 0xC2 (inr (omega arith)), eqb_raised b 0x85 (inr (omega arith)), eqb_raised b 0xA0 (inr (omega arith))) refl

space80_raised : (c : ℕ) → space80 (raised c) ≡ space80 c
unfolding space80
space80_raised c = rw (within_raised c 0x80 0x8A (inr (omega arith)), within_raised c 0xA8 0xA9 (inr (omega arith)), eqb_raised c 0xAF (inr (omega arith))) refl

space3_raised : (a b c : ℕ) → space3 (raised a) (raised b) (raised c) ≡ space3 a b c
unfolding space3
space3_raised a b c =
    simp (
      eqb_raised a 0xE1 (inr (omega arith)),
      eqb_raised a 0xE2 (inr (omega arith)),
      eqb_raised a 0xE3 (inr (omega arith)),
      eqb_raised b 0x9A (inr (omega arith)),
      eqb_raised b 0x80 (inr (omega arith)),
      eqb_raised b 0x81 (inr (omega arith)),
      eqb_raised c 0x80 (inr (omega arith)),
      eqb_raised c 0x9F (inr (omega arith)),
      space80_raised,
    )

pub byte_raised : (xs : List ℕ) (k : ℕ) → get_or (capitals xs) k 0 ≡ raised (get_or xs k 0)
unfolding raised
byte_raised xs k = get_or-map raised xs k 0

front_raised : (xs : List ℕ) → space_len (capitals xs) ≡ space_len xs
unfolding space_len
front_raised xs = simp (byte_raised, space1_raised, space2_raised, space3_raised)

back_raised : (xs : List ℕ) → space_back (capitals xs) ≡ space_back xs
unfolding space_back
back_raised xs = simp (byte_raised, space1_raised, space2_raised, space3_raised)

-- ---- a walk, a part and a reversal of capitals
drop_capitals : (n : ℕ) (xs : List ℕ) → drop n (capitals xs) ≡ capitals (drop n xs)
drop_capitals zero xs = refl
drop_capitals (suc n) [] = refl
drop_capitals (suc n) (x ∷ xs) = drop_capitals n xs

take_capitals : (n : ℕ) (xs : List ℕ) → take n (capitals xs) ≡ capitals (take n xs)
take_capitals zero xs = refl
take_capitals (suc n) [] = refl
take_capitals (suc n) (x ∷ xs) = ap (λ (r : List ℕ). raised x ∷ r) (take_capitals n xs)

reverse_onto : (xs r : List ℕ) → reverse_aux (capitals xs) (capitals r) ≡ capitals (reverse_aux xs r)
reverse_onto [] r = refl
reverse_onto (x ∷ xs) r = reverse_onto xs (x ∷ r)

reverse_capitals : (xs : List ℕ) → reverse (capitals xs) ≡ capitals (reverse xs)
reverse_capitals xs = reverse_onto xs []

module _ (h : List ℕ → ℕ) (alike : (xs : List ℕ) → h (capitals xs) ≡ h xs) where
  walk_capitals : (f : ℕ) (xs : List ℕ) → walk h f (capitals xs) ≡ walk h f xs
  walk_capitals zero xs = refl
  walk_capitals (suc f) [] = refl
  walk_capitals (suc f) (x ∷ xs) =
      rw (alike (x ∷ xs), drop_capitals (h (x ∷ xs) - 1) xs, walk_capitals f (drop (h (x ∷ xs) - 1) xs)) refl

  pub lead_capitals : (xs : List ℕ) → lead h (capitals xs) ≡ lead h xs
  unfolding lead
  lead_capitals xs = rw (length-map xs raised) (walk_capitals (length xs) xs)

pub trim_capitals : (xs : List ℕ) → trimmed (capitals xs) ≡ capitals (trimmed xs)
unfolding trimmed trim_start trim_end
trim_capitals xs =
    rw (
      lead_capitals space_len front_raised xs,
      drop_capitals (lead space_len xs) xs,
      reverse_capitals (drop (lead space_len xs) xs),
      lead_capitals space_back back_raised (reverse (drop (lead space_len xs) xs)),
      length-map (drop (lead space_len xs) xs) raised,
    )
    (take_capitals (length (drop (lead space_len xs) xs) - lead space_back (reverse (drop (lead space_len xs) xs))) (drop (lead space_len xs) xs))

pub blank_capitals : (xs : List ℕ) → blank (capitals xs) ≡ blank xs
unfolding blank trim_start
blank_capitals xs = rw (lead_capitals space_len front_raised xs, length-map xs raised) refl
