-- Laws of `specs/Space.antt`. Assumes nothing.
use mathlib.Core.Path.{◌≡◌, refl, sym, ap, ◌∙◌}
use mathlib.Core.Bool.{Bool, true, false}
use mathlib.Core.Logic.{⊎_elim}
use Prim.Native.Nat.{ℕ, suc, ◌+◌, ◌-◌, ◌≤◌, ◌<◌}
use native.Mathlib.Nat.{le_refl, add-zero, zero-add, suc-ne-zero, not-suc-le-zero, le_of_suc-le-suc, eq-or-lt_of_le}
use native.Mathlib.Omega.{arith}
use mathlib.Core.List.{List, [], ◌∷◌, reverse, reverse-cons}
use lib.ListN.{length, take, drop, get_or, length-drop, length-reverse, get_or-append}
use lib.Seq.{get_or-drop, get_or_at, take_all}
use lib.Dec.{lit≤, eqb, leb}
use borrow.Author.Tests.{eq-eqb, ne_eqb, lt-leb, leb-true}
use Rattle.text.specs.Pick.{pick, within}
use Rattle.text.specs.Space.{space1, space2, space3, space80, space_len, space_back, space_ahead, width, trim_start, trim_end, trimmed, blank}
use Rattle.text.specs.Find.{other}
use Rattle.text.specs.Walk.{ends, lead}
use Rattle.text.proofs.BoolLaws.{both_left, both_right, both_no}
use Rattle.text.proofs.Walks.{here, on, lead_le}
use Rattle.text.proofs.Utf8Laws.{pick_le}

module _ (s : List ℕ) (i n x y z : ℕ) (p q r : Bool) (ex : x ≡ get_or s i 0) (ey : y ≡ get_or s (i + 1) 0) (ez : z ≡ get_or s (i + 2) 0) (ep : p ≡ space1 x) (e : n ≡ width p q r) where
  pub front : q ≡ space2 x y → r ≡ space3 x y z → n ≡ space_len (drop i s)
  unfolding space_len
  front eq er = simp (get_or-drop, add-zero, ← ex, ← ey, ← ez, ← ep, ← eq, ← er) e

  pub back : q ≡ space2 y x → r ≡ space3 z y x → n ≡ space_back (drop i s)
  unfolding space_back
  back eq er = simp (get_or-drop, add-zero, ← ex, ← ey, ← ez, ← ep, ← eq, ← er) e

  pub ahead_back : (d : Bool) → d ≡ true → q ≡ space2 y x → r ≡ space3 z y x → n ≡ space_ahead d (drop i s)
  ahead_back d t eq er = rw t (back eq er)

  pub ahead_front : (d : Bool) → d ≡ false → q ≡ space2 x y → r ≡ space3 x y z → n ≡ space_ahead d (drop i s)
  ahead_front d t eq er = rw t (front eq er)

-- a plain byte neither begins nor ends white space
module _ (s : List ℕ) (i x : ℕ) (t : Bool) (ex : x ≡ get_or s i 0) (et : t ≡ within x 0x21 0x7F) (yes : t ≡ true) where
  low : 0x21 ≤ x
  low = leb-true 0x21 x (both_left (leb 0x21 x) (leb x 0x7F) (sym et ∙ yes))

  high : x ≤ 0x7F
  high = leb-true x 0x7F (both_right (leb 0x21 x) (leb x 0x7F) (sym et ∙ yes))

  no_space1 : space1 x ≡ false
  unfolding space1
  no_space1 = rw (lt-leb x 0x0D (omega (arith, low)), ne_eqb x 0x20 (λ e. omega (arith, low))) (rw both_no)

  pub plain_front : 0 ≡ space_len (drop i s)
  unfolding space_len width space2 space3
  plain_front =
      simp (
        get_or-drop,
        add-zero,
        ← ex,
        no_space1,
        ne_eqb x 0xC2 (λ e. omega (arith, high)),
        ne_eqb x 0xE1 (λ e. omega (arith, high)),
        ne_eqb x 0xE2 (λ e. omega (arith, high)),
        ne_eqb x 0xE3 (λ e. omega (arith, high)),
      )

  pub plain_back : 0 ≡ space_back (drop i s)
  unfolding space_back width space2 space3 space80
  plain_back =
      simp (
        get_or-drop,
        add-zero,
        ← ex,
        no_space1,
        both_no,
        lt-leb 0x80 x (omega (arith, high)),
        lt-leb 0xA8 x (omega (arith, high)),
        ne_eqb x 0x85 (λ e. omega (arith, high)),
        ne_eqb x 0xA0 (λ e. omega (arith, high)),
        ne_eqb x 0xAF (λ e. omega (arith, high)),
        ne_eqb x 0x80 (λ e. omega (arith, high)),
        ne_eqb x 0x9F (λ e. omega (arith, high)),
      )

ruleset small = (pick_le, lit≤, tt)

three_le : (p q r : Bool) → width p q r ≤ 3
unfolding width
three_le p q r = search small

two_le : (p q : Bool) → width p q false ≤ 2
unfolding width
two_le p q = search small

one_le : (p : Bool) → width p false false ≤ 1
unfolding width
one_le p = search small

-- a byte that is 0 is in no white space
pub none2 : (a : ℕ) → space2 a 0 ≡ false
unfolding space2
none2 a = simp both_no

pub none3 : (a b : ℕ) → space3 a b 0 ≡ false
unfolding space3 space80
none3 a b = simp both_no

pub front_within : (xs : List ℕ) → 0 < length xs → space_len xs ≤ length xs
unfolding space_len
front_within [] h = absurd (not-suc-le-zero h)
front_within (a ∷ []) h = rw (none2, none3) (one_le (space1 a))
front_within (a ∷ b ∷ []) h = rw none3 (two_le (space1 a) (space2 a b))
front_within (a ∷ b ∷ c ∷ r) h = omega (arith, three_le (space1 a) (space2 a b) (space3 a b c))

pub back_within : (xs : List ℕ) → 0 < length xs → space_back xs ≤ length xs
unfolding space_back space2 space3
back_within [] h = absurd (not-suc-le-zero h)
back_within (a ∷ []) h = one_le (space1 a)
back_within (a ∷ b ∷ []) h = two_le (space1 a) (space2 b a)
back_within (a ∷ b ∷ c ∷ r) h = omega (arith, three_le (space1 a) (space2 b a) (space3 c b a))

pub front_fits : (s : List ℕ) (i n : ℕ) → i < length s → n ≡ space_len (drop i s) → i + n ≤ length s
front_fits s i n h e = rw e (omega (arith, length-drop i s, front_within (drop i s) (simp length-drop (omega arith))))

pub get_d_reverse : (s : List ℕ) (i : ℕ) → i < length s → get_or s (length s - 1 - i) 0 ≡ get_or (reverse s) i 0
get_d_reverse [] i h = absurd (not-suc-le-zero h)
get_d_reverse (x ∷ xs) i h =
    ⊎_elim
    (λ e.
    let z : length (x ∷ xs) - 1 - i ≡ 0 = omega arith in
    rw (z, reverse-cons x xs) (sym (get_or_at (reverse xs) x [] 0 i (length-reverse xs ∙ sym e))))
    (λ lt.
    let z : length (x ∷ xs) - 1 - i ≡ suc (length xs - 1 - i) = omega arith in
    rw (z, reverse-cons x xs)
    (get_d_reverse xs i lt ∙ sym (get_or-append (reverse xs) (x ∷ []) 0 i (rw length-reverse lt))))
    (eq-or-lt_of_le (le_of_suc-le-suc h))

-- the same of either end
pub plain_ahead : (d : Bool) (s : List ℕ) (i x : ℕ) (t : Bool) → x ≡ get_or s i 0 → t ≡ within x 0x21 0x7F → t ≡ true → 0 ≡ space_ahead d (drop i s)
plain_ahead true s i x t ex et y = plain_back s i x t ex et y
plain_ahead false s i x t ex et y = plain_front s i x t ex et y

pub one_ahead : (d : Bool) (s : List ℕ) (i x : ℕ) (p : Bool) → x ≡ get_or s i 0 → p ≡ space1 x → p ≡ true → 1 ≡ space_ahead d (drop i s)
unfolding space_len space_back width
one_ahead true s i x p ex ep y = simp (get_or-drop, add-zero, ← ex, ← ep, y)
one_ahead false s i x p ex ep y = simp (get_or-drop, add-zero, ← ex, ← ep, y)

pub ahead_within : (d : Bool) (xs : List ℕ) → 0 < length xs → space_ahead d xs ≤ length xs
ahead_within true xs h = back_within xs h
ahead_within false xs h = front_within xs h

pub length-end : (d : Bool) (s : List ℕ) → length (pick d (reverse s) s) ≡ length s
length-end true s = length-reverse s
length-end false s = refl

pub ahead_fits : (d : Bool) (s : List ℕ) (i n : ℕ) → i < length s → n ≡ space_ahead d (drop i (pick d (reverse s) s)) → i + n ≤ length s
ahead_fits d s i n h e =
    let l = length-end d s in
    rw e (omega (arith, length-drop i (pick d (reverse s) s), ahead_within d (drop i (pick d (reverse s) s)) (simp length-drop (omega arith))))

-- a search for b: it is here, or it goes on
pub is_here : (s : List ℕ) (i b : ℕ) → get_or s i 0 ≡ b → 0 ≡ other b (drop i s)
unfolding other
is_here s i b e = simp (get_or-drop, add-zero, eq-eqb (get_or s i 0) b e)

pub goes_on_lem : (s : List ℕ) (i b : ℕ) → (get_or s i 0 ≡ b → ⊥) → 1 ≡ other b (drop i s)
unfolding other
goes_on_lem s i b e = simp (get_or-drop, add-zero, ne_eqb (get_or s i 0) b e)

pub goes_by : (s : List ℕ) (i b a : ℕ) → (get_or s i 0 ≡ b → ⊥) → i < length s → ends (other b) s i ≡ a → ends (other b) s (i + 1) ≡ a
goes_by s i b a n h q = on (other b) s i 1 a (goes_on_lem s i b n) (λ e. suc-ne-zero 0 e) (omega arith) q

-- the walk back from the end, as a loop carries it
unfoldable pub From-end : List ℕ → ℕ → Type 0
From-end s i = ends space_back (reverse s) i ≡ lead space_back (reverse s)

pub end_start : (s : List ℕ) → From-end s 0
unfolding From-end ends
end_start s = simp zero-add

pub end_here : (s : List ℕ) (i w : ℕ) → w ≡ space_back (drop i (reverse s)) → w ≡ 0 → From-end s i → length s - i ≡ trim_end s
unfolding From-end trim_end
end_here s i w e z q = ap (λ (k : ℕ). length s - k) (here space_back (reverse s) i w _ e z q)

pub start_le : (xs : List ℕ) → trim_start xs ≤ length xs
unfolding trim_start
start_le xs = lead_le space_len front_within xs

pub end_le : (xs : List ℕ) → trim_end xs ≤ length xs
unfolding trim_end
end_le xs = omega arith

-- a part up to the end, as a slice from a on has it
pub rest : (s : List ℕ) (a : ℕ) → take (length s - a) (drop a s) ≡ drop a s
rest s a = take_all (length s - a) (drop a s) (simp length-drop (le_refl (length s - a)))

pub trim_part : (s : List ℕ) (a n : ℕ) → a ≡ trim_start s → n ≡ trim_end (take (length s - a) (drop a s))
    → take n (take (length s - a) (drop a s)) ≡ trimmed s
unfolding trimmed
trim_part s a n e f = simp (f, rest, e)

starts : (s : List ℕ) → 0 ≡ space_len (drop 0 s) → 0 ≡ trim_start s
unfolding trim_start ends
starts s e = here space_len s 0 0 (lead space_len s) e refl (simp zero-add)

-- between two plain bytes nothing is trimmed
pub trim_whole : (s : List ℕ) (x y : ℕ) (p q : Bool) → x ≡ get_or s 0 0 → y ≡ get_or (reverse s) 0 0
    → p ≡ within x 0x21 0x7F → q ≡ within y 0x21 0x7F → p ≡ true → q ≡ true → s ≡ trimmed s
unfolding trimmed
trim_whole s x y p q ex ey ep eq front-plain back-plain =
    let front : 0 ≡ trim_start s = starts s (plain_front s 0 x p ex ep front-plain) in
    let end : length s - 0 ≡ trim_end s = end_here s 0 0 (plain_back (reverse s) 0 y q ey eq back-plain) refl (end_start s) in
    rw (← front, ← end) (sym (take_all (length s - 0) s (omega arith)))

pub blank_is : (s : List ℕ) (a : ℕ) → a ≡ trim_start s → eqb a (length s) ≡ blank s
unfolding blank
blank_is s a e = rw e refl
