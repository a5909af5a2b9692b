-- A UTF-8 text that is trimmed is UTF-8: white space is whole characters. Assumes nothing.
use mathlib.Core.Path.{◌≡◌, refl, sym}
use mathlib.Core.Bool.{Bool, true, false}
use mathlib.Core.List.{List, [], ◌∷◌, reverse}
use Prim.Native.Nat.{ℕ, zero, suc, ◌+◌, ◌-◌, ◌≤◌, ◌<◌}
use native.Mathlib.Nat.{not-suc-le-zero, sub-zero}
use native.Mathlib.Omega.{arith}
use lib.ListN.{length, get_or, drop, length-take, length-drop, length-reverse}
use lib.Seq.{get_or-drop, drop-drop}
use lib.Dec.{leb, eqb}
use borrow.Author.Tests.{le-leb, lt-leb, leb-true, leb-false, eqb-true}
use Rattle.text.specs.Pick.{both, either, within}
use Rattle.text.specs.Walk.{lead}
use Rattle.text.specs.Utf8.{cont, second3, long_char, char_len, valid_up_to, Utf8, Between}
use Rattle.text.specs.Space.{space1, space2, space80, space3, width, space_len, space_back, trim_start, trim_end, trimmed}
use Rattle.text.proofs.Walks.{steps, stops, lead_le}
use Rattle.text.proofs.CharLaws.{first_begins}
use Rattle.text.proofs.SpaceLaws.{front_fits, get_d_reverse, end_le, back_within}
use Rattle.text.proofs.PartLaws.{part_whole}
use Rattle.text.proofs.BoolLaws.{both_left, both_right}

-- ---- which bytes white space has
either_is : {A : Type 0} (a b : Bool) → either a b ≡ true → (a ≡ true → A) → (b ≡ true → A) → A
either_is true b e f g = f e
either_is false b e f g = g e

-- a byte that continues
abbrev Inner : ℕ → Type 0
Inner b = (0x80 ≤ b) × (b ≤ 0xBF)

in_range : (x lo hi : ℕ) → within x lo hi ≡ true → (lo ≤ x) × (x ≤ hi)
in_range x lo hi e = (leb-true lo x (both_left (leb lo x) (leb x hi) e), leb-true x hi (both_right (leb lo x) (leb x hi) e))

is1 : (a : ℕ) → space1 a ≡ true → a ≤ 0x20
unfolding space1
is1 a e = either_is (within a 0x09 0x0D) (eqb a 0x20) e (λ p. omega (arith, (in_range a 0x09 0x0D p).1)) (λ p. omega (arith, eqb-true a 0x20 p))

is2 : (a b : ℕ) → space2 a b ≡ true → (a ≡ 0xC2) × Inner b
unfolding space2
is2 a b e = (
  eqb-true a 0xC2 (both_left (eqb a 0xC2) (either (eqb b 0x85) (eqb b 0xA0)) e),
  either_is (eqb b 0x85) (eqb b 0xA0) (both_right (eqb a 0xC2) (either (eqb b 0x85) (eqb b 0xA0)) e) (λ p. (omega (arith, eqb-true b 0x85 p), omega (arith, eqb-true b 0x85 p))) (λ p. (omega (arith, eqb-true b 0xA0 p), omega (arith, eqb-true b 0xA0 p))),
)

is80 : (c : ℕ) → space80 c ≡ true → Inner c
unfolding space80
is80 c e =
    either_is (within c 0x80 0x8A) (either (within c 0xA8 0xA9) (eqb c 0xAF)) e (λ p. ((in_range c 0x80 0x8A p).0, omega (arith, (in_range c 0x80 0x8A p).1)))
    (λ f. either_is (within c 0xA8 0xA9) (eqb c 0xAF) f (λ p. (omega (arith, (in_range c 0xA8 0xA9 p).0), omega (arith, (in_range c 0xA8 0xA9 p).1))) (λ p. (omega (arith, eqb-true c 0xAF p), omega (arith, eqb-true c 0xAF p))))

-- the first byte of three
abbrev Three : ℕ → ℕ → ℕ → Type 0
Three a b c = (0xE1 ≤ a) × (a ≤ 0xE3) × Inner b × Inner c

three : (a b c x y : ℕ) (t : Bool) → 0xE1 ≤ x → x ≤ 0xE3 → Inner y → (t ≡ true → Inner c) → both (both (eqb a x) (eqb b y)) t ≡ true → Three a b c
three a b c x y t l h i f e =
    let p : both (eqb a x) (eqb b y) ≡ true = both_left (both (eqb a x) (eqb b y)) t e in
    let q : a ≡ x = eqb-true a x (both_left (eqb a x) (eqb b y) p) in
    let r : b ≡ y = eqb-true b y (both_right (eqb a x) (eqb b y) p) in
    (omega arith, omega arith, (omega (arith, i.0), omega (arith, i.1)), f (both_right (both (eqb a x) (eqb b y)) t e))

is3 : (a b c : ℕ) → space3 a b c ≡ true → Three a b c
unfolding space3
is3 a b c e =
    either_is (both (both (eqb a 0xE1) (eqb b 0x9A)) (eqb c 0x80)) _ e
    (three a b c 0xE1 0x9A (eqb c 0x80) (omega arith) (omega arith) (omega arith, omega arith) (λ p. (omega (arith, eqb-true c 0x80 p), omega (arith, eqb-true c 0x80 p))))
    (λ f. either_is (both (both (eqb a 0xE2) (eqb b 0x80)) (space80 c)) _ f
    (three a b c 0xE2 0x80 (space80 c) (omega arith) (omega arith) (omega arith, omega arith) (is80 c))
    (λ g. either_is (both (both (eqb a 0xE2) (eqb b 0x81)) (eqb c 0x9F)) (both (both (eqb a 0xE3) (eqb b 0x80)) (eqb c 0x80)) g
    (three a b c 0xE2 0x81 (eqb c 0x9F) (omega arith) (omega arith) (omega arith, omega arith) (λ p. (omega (arith, eqb-true c 0x9F p), omega (arith, eqb-true c 0x9F p))))
    (three a b c 0xE3 0x80 (eqb c 0x80) (omega arith) (omega arith) (omega arith, omega arith) (λ p. (omega (arith, eqb-true c 0x80 p), omega (arith, eqb-true c 0x80 p))))))

by_width : {A : Type 0} (p q r : Bool) (k : ℕ) → width p q r ≡ suc k → (p ≡ true → k ≡ 0 → A) → (q ≡ true → k ≡ 1 → A) → (r ≡ true → k ≡ 2 → A) → A
unfolding width
by_width true q r k e f g h = f refl (omega arith)
by_width false true r k e f g h = g refl (omega arith)
by_width false false true k e f g h = h refl (omega arith)
by_width false false false k e f g h = absurd (omega arith)

-- ---- at the front
inner : (b : ℕ) → Inner b → cont b ≡ true
inner b i = rw (le-leb 0x80 b i.0, le-leb b 0xBF i.1) refl

module _ (xs : List ℕ) where
  abbrev a : ℕ
  a = get_or xs 0 0

  abbrev b : ℕ
  b = get_or xs 1 0

  abbrev c : ℕ
  c = get_or xs 2 0

  char1 : a ≤ 0x20 → char_len xs ≡ 1
  unfolding char_len
  char1 h = rw (le-leb a 0x7F (omega arith)) refl

  char2 : (a ≡ 0xC2) × Inner b → char_len xs ≡ 2
  unfolding char_len long_char
  char2 h = rw (h.0, inner b h.1) refl

  char3 : Three a b c → char_len xs ≡ 3
  unfolding char_len long_char second3
  char3 h =
      rw (lt-leb a 0x7F (omega (arith, h.0)), le-leb 0xC2 a (omega (arith, h.0)), lt-leb a 0xDF (omega (arith, h.0)), le-leb 0xE0 a (omega (arith, h.0)), le-leb a 0xEF (omega (arith, h.1)), lt-leb a 0xE0 (omega (arith, h.0)), lt-leb 0xED a (omega (arith, h.1)), inner b h.2, inner c h.3)
      refl

  space_char : (k : ℕ) → space_len xs ≡ suc k → char_len xs ≡ suc k
  unfolding space_len
  space_char k e =
      by_width (space1 a) (space2 a b) (space3 a b c) k e (λ p z. rw z (char1 (is1 a p))) (λ p z. rw z (char2 (is2 a b p))) (λ p z. rw z (char3 (is3 a b c p)))

left : (s : List ℕ) (k : ℕ) → Utf8 s → suc k ≤ length s → lead char_len s ≡ suc k + lead char_len (drop (suc k) s) → Utf8 (drop (suc k) s)
unfolding valid_up_to
left s k v w z = omega (arith, length-drop (suc k) s)

none_left : (n : ℕ) → Utf8 (drop n [])
unfolding valid_up_to lead
none_left zero = refl
none_left (suc n) = refl

drop_front : (f : ℕ) (s : List ℕ) → length s < f → Utf8 s → Utf8 (drop (lead space_len s) s)
drop_front zero s h u = absurd (not-suc-le-zero h)
drop_front (suc f) s h u = by (space_len s) refl (λ t x y. drop_front f t x y)
  where
    by : (k : ℕ) → space_len s ≡ k → ((t : List ℕ) → length t < f → Utf8 t → Utf8 (drop (lead space_len t) t)) → Utf8 (drop (lead space_len s) s)
    by zero e go = rw (stops space_len s e) u
    by (suc k) e go = some s h u e
      where
        some : (t : List ℕ) → length t < suc f → Utf8 t → space_len t ≡ suc k → Utf8 (drop (lead space_len t) t)
        some [] l v p = none_left (lead space_len [])
        some (x ∷ xs) l v p =
            let S : List ℕ = x ∷ xs in
            let w : suc k ≤ length S = omega (arith, front_fits S 0 (suc k) (omega arith) (sym p)) in
            let z : lead char_len S ≡ suc k + lead char_len (drop (suc k) S) = steps char_len S k (space_char S k p) w in
            rw (steps space_len S k p w, ← drop-drop (lead space_len (drop (suc k) S)) (suc k) S) (go (drop (suc k) S) (omega (arith, length-drop (suc k) S)) (left S k v w z))

-- ---- at the end
past : (t : List ℕ) (i : ℕ) → length t ≤ i → get_or t i 0 ≡ 0
past [] i h = refl
past (x ∷ xs) zero h = absurd (omega arith)
past (x ∷ xs) (suc i) h = past xs i (omega arith)

back_in : (xs : List ℕ) (k : ℕ) → 0 < length xs → space_back xs ≡ suc k → suc k ≤ length xs
unfolding space_back
back_in xs k h e =
    by_width (space1 (get_or xs 0 0)) (space2 (get_or xs 1 0) (get_or xs 0 0)) (space3 (get_or xs 2 0) (get_or xs 1 0) (get_or xs 0 0)) k e (λ p z. omega arith)
    (λ p z. reached 1 z (λ q. omega (arith, (is2 (get_or xs 1 0) (get_or xs 0 0) p).0))) (λ p z. reached 2 z (λ q. omega (arith, (is3 (get_or xs 2 0) (get_or xs 1 0) (get_or xs 0 0) p).0)))
  where
    reached : (i : ℕ) → k ≡ i → (get_or xs i 0 ≡ 0 → ⊥) → suc k ≤ length xs
    reached i z n = by (leb (length xs) i) refl
      where
        by : (t : Bool) → leb (length xs) i ≡ t → suc k ≤ length xs
        by true q = absurd (n (past xs i (leb-true (length xs) i q)))
        by false q = omega (arith, leb-false (length xs) i q)

-- the byte at which white space begins continues nothing
begins : (xs : List ℕ) (k : ℕ) → space_back xs ≡ suc k → cont (get_or xs k 0) ≡ false
unfolding space_back
begins xs k e =
    by_width (space1 (get_or xs 0 0)) (space2 (get_or xs 1 0) (get_or xs 0 0)) (space3 (get_or xs 2 0) (get_or xs 1 0) (get_or xs 0 0)) k e
    (λ p z. rw (z, lt-leb 0x80 (get_or xs 0 0) (omega (arith, is1 (get_or xs 0 0) p))) refl)
    (λ p z. rw (z, (is2 (get_or xs 1 0) (get_or xs 0 0) p).0) refl)
    (λ p z. rw (z, lt-leb (get_or xs 2 0) 0xBF (omega (arith, (is3 (get_or xs 2 0) (get_or xs 1 0) (get_or xs 0 0) p).0)), le-leb 0x80 (get_or xs 2 0) (omega (arith, (is3 (get_or xs 2 0) (get_or xs 1 0) (get_or xs 0 0) p).0))) refl)

back_begins : (f : ℕ) (xs : List ℕ) → length xs < f → (j : ℕ) → lead space_back xs ≡ suc j → cont (get_or xs j 0) ≡ false
back_begins zero xs h j e = absurd (not-suc-le-zero h)
back_begins (suc f) xs h j e = by (space_back xs) refl (λ t x i y. back_begins f t x i y)
  where
    by : (k : ℕ) → space_back xs ≡ k → ((t : List ℕ) → length t < f → (i : ℕ) → lead space_back t ≡ suc i → cont (get_or t i 0) ≡ false) → cont (get_or xs j 0) ≡ false
    by zero p go = absurd (omega (arith, stops space_back xs p))
    by (suc k) p go = some xs h e p
      where
        some : (t : List ℕ) → length t < suc f → lead space_back t ≡ suc j → space_back t ≡ suc k → cont (get_or t j 0) ≡ false
        some [] l q r = refl
        some (x ∷ xs) l q r =
            let S : List ℕ = x ∷ xs in
            let w : suc k ≤ length S = back_in S k (omega arith) r in
            let z : lead space_back S ≡ suc k + lead space_back (drop (suc k) S) = steps space_back S k r w in
            further (lead space_back (drop (suc k) S)) refl z
          where
            further : (m : ℕ) → lead space_back (drop (suc k) (x ∷ xs)) ≡ m → lead space_back (x ∷ xs) ≡ suc k + lead space_back (drop (suc k) (x ∷ xs)) → cont (get_or (x ∷ xs) j 0) ≡ false
            further zero n z =
                let g : j ≡ k = omega arith in
                rw g (begins (x ∷ xs) k r)
            further (suc m) n z =
                let g : j ≡ suc k + m = omega arith in
                rw (g, ← get_or-drop (suc k) (x ∷ xs) m 0) (go (drop (suc k) (x ∷ xs)) (omega (arith, length-drop (suc k) (x ∷ xs))) m n)

ends_between : (t : List ℕ) → Between t (trim_end t)
unfolding trim_end
ends_between t = by (lead space_back (reverse t)) refl
  where
    by : (m : ℕ) → lead space_back (reverse t) ≡ m → cont (get_or t (length t - m) 0) ≡ false
    by zero e = rw (past t (length t - 0) (omega arith)) refl
    by (suc j) e = inside (leb (suc j) (length t)) refl
      where
        inside : (b : Bool) → leb (suc j) (length t) ≡ b → cont (get_or t (length t - suc j) 0) ≡ false
        inside true p =
            let l : suc j ≤ length t = leb-true (suc j) (length t) p in
            let g : length t - suc j ≡ length t - 1 - j = omega arith in
            rw (g, get_d_reverse t j (omega arith)) (back_begins (suc (length (reverse t))) (reverse t) (omega arith) j e)
        inside false p = absurd (omega (arith, leb-false (suc j) (length t) p, lead_le space_back back_within (reverse t), length-reverse t))

starts_between : (t : List ℕ) → Utf8 t → Between t 0
unfolding valid_up_to
starts_between [] u = refl
starts_between (x ∷ xs) u = by (char_len (x ∷ xs)) refl
  where
    by : (k : ℕ) → char_len (x ∷ xs) ≡ k → cont x ≡ false
    by zero e = absurd (omega (arith, stops char_len (x ∷ xs) e))
    by (suc k) e = first_begins x k xs e

pub trimmed_utf8 : (s : List ℕ) → Utf8 s → Utf8 (trimmed s)
unfolding trimmed trim_start
trimmed_utf8 s u =
    let t : List ℕ = drop (lead space_len s) s in
    let v : Utf8 t = drop_front (suc (length s)) s (omega arith) u in
    simp sub-zero at (part_whole t 0 (trim_end t) v (omega arith) (end_le t) (starts_between t v) (ends_between t))

pub trimmed_short : (s : List ℕ) → length (trimmed s) ≤ length s
unfolding trimmed
trimmed_short s = omega (arith, length-take (trim_end (drop (trim_start s) s)) (drop (trim_start s) s), length-drop (trim_start s) s)
