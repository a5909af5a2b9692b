-- A character of `specs/Utf8.antt` depends on its own bytes alone, and all of them but the first continue it. Assumes nothing.
use mathlib.Core.Path.{◌≡◌, refl}
use mathlib.Core.Bool.{Bool, true, false}
use mathlib.Core.List.{List, [], ◌∷◌, ◌++◌}
use Prim.Native.Nat.{ℕ, zero, suc, ◌≤◌, ◌<◌}
use native.Mathlib.Nat.{not-suc-le-zero}
use native.Mathlib.Omega.{arith}
use lib.ListN.{length, get_or, take}
use lib.Dec.{leb}
use borrow.Author.Tests.{le-leb, lt-leb, leb-true}
use Rattle.text.specs.Pick.{pick, both, within}
use Rattle.text.specs.Utf8.{char_len, long_char, second3, second4, cont}

-- `char_len` by its tests: t an ASCII byte; p, q two bytes; r, s, u three; v, w, u, x four
abbrev wide : Bool → Bool → Bool → Bool → Bool → Bool → Bool → Bool → ℕ
wide p q r s u v w x = pick p (pick q 2 0) (pick r (pick (both s u) 3 0) (pick v (pick (both w (both u x)) 4 0) 0))

none_true : {A : Type 0} → false ≡ true → A
none_true e = absurd (let z : ◌≡◌ {A = ℕ} 0 1 = cc in omega arith)

-- ---- what stands after a character changes nothing
module _ (n : ℕ) where
  three : (p q r s u v w x : Bool) → wide p q r s u v w false ≡ suc n → wide p q r s u v w x ≡ suc n
  three true q r s u v w x e = e
  three false q true s u v w x e = e
  three false q false s u false w x e = e
  three false q false s true true true x e = absurd (omega arith)
  three false q false s false true true x e = absurd (omega arith)
  three false q false s u true false x e = e

  two : (p q r s u v w x : Bool) → wide p q r s false v w false ≡ suc n → wide p q r s u v w x ≡ suc n
  two true q r s u v w x e = e
  two false q true true u v w x e = absurd (omega arith)
  two false q true false u v w x e = e
  two false q false s u false w x e = e
  two false q false s u true true x e = absurd (omega arith)
  two false q false s u true false x e = e

  one : (p r s v w : Bool) → wide p false r s false v w false ≡ suc n → ⊥
  one true r s v w e = omega arith
  one false true true v w e = omega arith
  one false true false v w e = omega arith
  one false false s true true e = omega arith
  one false false s true false e = omega arith
  one false false s false w e = omega arith

  first : (t : Bool) (a b : ℕ) → (a ≡ suc n → b ≡ suc n) → pick t 1 a ≡ suc n → pick t 1 b ≡ suc n
  first true a b k e = e
  first false a b k e = k e

  pub char_append : (a b : List ℕ) → 0 < length a → char_len a ≡ suc n → char_len (a ++ b) ≡ suc n
  unfolding char_len long_char
  char_append [] b h e = absurd (not-suc-le-zero h)
  char_append (x ∷ []) b h e =
      first (leb x 0x7F) _ _ (λ z. absurd (one (within x 0xC2 0xDF) (within x 0xE0 0xEF) (second3 x 0) (within x 0xF0 0xF4) (second4 x 0) z)) e
  char_append (x ∷ y ∷ []) b h e =
      first (leb x 0x7F) _ _
      (two (within x 0xC2 0xDF) (cont y) (within x 0xE0 0xEF) (second3 x y) (cont (get_or b 0 0)) (within x 0xF0 0xF4) (second4 x y) (cont (get_or b 1 0))) e
  char_append (x ∷ y ∷ z ∷ []) b h e =
      first (leb x 0x7F) _ _
      (three (within x 0xC2 0xDF) (cont y) (within x 0xE0 0xEF) (second3 x y) (cont z) (within x 0xF0 0xF4) (second4 x y) (cont (get_or b 0 0))) e
  char_append (x ∷ y ∷ z ∷ w ∷ r) b h e = e

  -- ---- nor does what is cut off behind it
  cut_three : (p q r s u v w x : Bool) → suc n ≤ 3 → wide p q r s u v w x ≡ suc n → wide p q r s u v w false ≡ suc n
  cut_three true q r s u v w x h e = e
  cut_three false q true s u v w x h e = e
  cut_three false q false s u false w x h e = e
  cut_three false q false s true true true true h e = absurd (omega arith)
  cut_three false q false s true true true false h e = absurd (omega arith)
  cut_three false q false s false true true x h e = absurd (omega arith)
  cut_three false q false s u true false x h e = absurd (omega arith)

  cut_two : (p q r s u v w x : Bool) → suc n ≤ 2 → wide p q r s u v w x ≡ suc n → wide p q r s false v w false ≡ suc n
  cut_two true q r s u v w x h e = e
  cut_two false q true true true v w x h e = absurd (omega arith)
  cut_two false q true true false v w x h e = absurd (omega arith)
  cut_two false q true false u v w x h e = absurd (omega arith)
  cut_two false q false s u false w x h e = absurd (omega arith)
  cut_two false q false s true true true true h e = absurd (omega arith)
  cut_two false q false s true true true false h e = absurd (omega arith)
  cut_two false q false s false true true x h e = absurd (omega arith)
  cut_two false q false s u true false x h e = absurd (omega arith)

  cut_one : (p q r s u v w x : Bool) → suc n ≤ 1 → wide p q r s u v w x ≡ suc n → ⊥
  cut_one true true r s u v w x h e = omega arith
  cut_one true false r s u v w x h e = omega arith
  cut_one false q true true true v w x h e = omega arith
  cut_one false q true true false v w x h e = omega arith
  cut_one false q true false u v w x h e = omega arith
  cut_one false q false s u false w x h e = omega arith
  cut_one false q false s true true true true h e = omega arith
  cut_one false q false s true true true false h e = omega arith
  cut_one false q false s false true true x h e = omega arith
  cut_one false q false s u true false x h e = omega arith

  pub char_cut : (m : ℕ) (a : List ℕ) → suc n ≤ m → m < length a → char_len a ≡ suc n → char_len (take m a) ≡ suc n
  unfolding char_len long_char
  char_cut zero a h l e = absurd (not-suc-le-zero h)
  char_cut (suc m) [] h l e = absurd (not-suc-le-zero l)
  char_cut (suc m) (x ∷ []) h l e = absurd (omega arith)
  char_cut (suc zero) (x ∷ y ∷ r) h l e =
      first (leb x 0x7F) _ _
      (λ z.
      absurd
      (cut_one (within x 0xC2 0xDF) (cont y) (within x 0xE0 0xEF) (second3 x y) (cont (get_or r 0 0)) (within x 0xF0 0xF4) (second4 x y) (cont (get_or r 1 0)) h z)) e
  char_cut (suc (suc m)) (x ∷ y ∷ []) h l e = absurd (omega arith)
  char_cut (suc (suc zero)) (x ∷ y ∷ z ∷ r) h l e =
      first (leb x 0x7F) _ _
      (cut_two (within x 0xC2 0xDF) (cont y) (within x 0xE0 0xEF) (second3 x y) (cont z) (within x 0xF0 0xF4) (second4 x y) (cont (get_or r 0 0)) h) e
  char_cut (suc (suc (suc m))) (x ∷ y ∷ z ∷ []) h l e = absurd (omega arith)
  char_cut (suc (suc (suc zero))) (x ∷ y ∷ z ∷ w ∷ r) h l e =
      first (leb x 0x7F) _ _
      (cut_three (within x 0xC2 0xDF) (cont y) (within x 0xE0 0xEF) (second3 x y) (cont z) (within x 0xF0 0xF4) (second4 x y) (cont w) h) e
  char_cut (suc (suc (suc (suc m)))) (x ∷ y ∷ z ∷ w ∷ r) h l e = e

-- ---- the bytes of a character after its first continue it
within_cont : (b lo hi : ℕ) → 0x80 ≤ lo → hi ≤ 0xBF → within b lo hi ≡ true → cont b ≡ true
within_cont b lo hi p q e = by (leb lo b) (leb b hi) refl refl e
  where
    by : (x y : Bool) → leb lo b ≡ x → leb b hi ≡ y → both x y ≡ true → cont b ≡ true
    by true true f g z = simp (le-leb 0x80 b (omega (arith, leb-true lo b f)), le-leb b 0xBF (omega (arith, leb-true b hi g)))
    by true false f g z = none_true z
    by false y f g z = none_true z

pick_between : (t : Bool) (a b lo hi : ℕ) → (lo ≤ a) × (a ≤ hi) → (lo ≤ b) × (b ≤ hi) → (lo ≤ pick t a b) × (pick t a b ≤ hi)
pick_between true a b lo hi p q = p
pick_between false a b lo hi p q = q

second3_cont : (a b : ℕ) → second3 a b ≡ true → cont b ≡ true
unfolding second3
second3_cont a b e =
    within_cont b (pick (leb a 0xE0) 0xA0 0x80) (pick (within a 0xED 0xED) 0x9F 0xBF)
    (pick_between (leb a 0xE0) 0xA0 0x80 0x80 0xBF (omega arith, omega arith) (omega arith, omega arith)).0
    (pick_between (within a 0xED 0xED) 0x9F 0xBF 0x80 0xBF (omega arith, omega arith) (omega arith, omega arith)).1
    e

second4_cont : (a b : ℕ) → second4 a b ≡ true → cont b ≡ true
unfolding second4
second4_cont a b e =
    within_cont b (pick (leb a 0xF0) 0x90 0x80) (pick (leb 0xF4 a) 0x8F 0xBF)
    (pick_between (leb a 0xF0) 0x90 0x80 0x80 0xBF (omega arith, omega arith) (omega arith, omega arith)).0
    (pick_between (leb 0xF4 a) 0x8F 0xBF 0x80 0xBF (omega arith, omega arith) (omega arith, omega arith)).1
    e

module _ (q : Bool) (n : ℕ) where
  second_byte : (t p r s u v w x : Bool) → (s ≡ true → q ≡ true) → (w ≡ true → q ≡ true) → 2 ≤ n → pick t 1 (wide p q r s u v w x) ≡ n → q ≡ true
  second_byte true p r s u v w x f g h e = absurd (omega arith)
  second_byte false true r s u v w x f g h e = by q e
    where
      by : (z : Bool) → pick z 2 0 ≡ n → z ≡ true
      by true d = refl
      by false d = absurd (omega arith)
  second_byte false false true true u v w x f g h e = f refl
  second_byte false false true false u v w x f g h e = absurd (omega arith)
  second_byte false false false s u true true x f g h e = g refl
  second_byte false false false s u true false x f g h e = absurd (omega arith)
  second_byte false false false s u false w x f g h e = absurd (omega arith)

third_byte : (n : ℕ) (t p q r s u v w x : Bool) → 3 ≤ n → pick t 1 (wide p q r s u v w x) ≡ n → u ≡ true
third_byte n true p q r s u v w x h e = absurd (omega arith)
third_byte n false true true r s u v w x h e = absurd (omega arith)
third_byte n false true false r s u v w x h e = absurd (omega arith)
third_byte n false false q true true true v w x h e = refl
third_byte n false false q true true false v w x h e = absurd (omega arith)
third_byte n false false q true false u v w x h e = absurd (omega arith)
third_byte n false false q false s true true true x h e = refl
third_byte n false false q false s false true true x h e = absurd (omega arith)
third_byte n false false q false s u true false x h e = absurd (omega arith)
third_byte n false false q false s u false w x h e = absurd (omega arith)

fourth_byte : (n : ℕ) (t p q r s u v w x : Bool) → 4 ≤ n → pick t 1 (wide p q r s u v w x) ≡ n → x ≡ true
fourth_byte n true p q r s u v w x h e = absurd (omega arith)
fourth_byte n false true true r s u v w x h e = absurd (omega arith)
fourth_byte n false true false r s u v w x h e = absurd (omega arith)
fourth_byte n false false q true true true v w x h e = absurd (omega arith)
fourth_byte n false false q true true false v w x h e = absurd (omega arith)
fourth_byte n false false q true false u v w x h e = absurd (omega arith)
fourth_byte n false false q false s true true true true h e = refl
fourth_byte n false false q false s true true true false h e = absurd (omega arith)
fourth_byte n false false q false s false true true x h e = absurd (omega arith)
fourth_byte n false false q false s u true false x h e = absurd (omega arith)
fourth_byte n false false q false s u false w x h e = absurd (omega arith)

no_fifth : (n : ℕ) (t p q r s u v w x : Bool) → 5 ≤ n → pick t 1 (wide p q r s u v w x) ≡ n → ⊥
no_fifth n true p q r s u v w x h e = omega arith
no_fifth n false true true r s u v w x h e = omega arith
no_fifth n false true false r s u v w x h e = omega arith
no_fifth n false false q true true true v w x h e = omega arith
no_fifth n false false q true true false v w x h e = omega arith
no_fifth n false false q true false u v w x h e = omega arith
no_fifth n false false q false s true true true true h e = omega arith
no_fifth n false false q false s true true true false h e = omega arith
no_fifth n false false q false s false true true x h e = omega arith
no_fifth n false false q false s u true false x h e = omega arith
no_fifth n false false q false s u false w x h e = omega arith

pub inner_cont : (s : List ℕ) (j n : ℕ) → char_len s ≡ n → 0 < j → j < n → cont (get_or s j 0) ≡ true
unfolding char_len long_char
inner_cont s zero n e p h = absurd (not-suc-le-zero p)
inner_cont s (suc zero) n e p h =
    second_byte (cont (get_or s 1 0)) n (leb (get_or s 0 0) 0x7F) (within (get_or s 0 0) 0xC2 0xDF) (within (get_or s 0 0) 0xE0 0xEF) (second3 (get_or s 0 0) (get_or s 1 0)) (cont (get_or s 2 0))
    (within (get_or s 0 0) 0xF0 0xF4) (second4 (get_or s 0 0) (get_or s 1 0)) (cont (get_or s 3 0)) (second3_cont (get_or s 0 0) (get_or s 1 0)) (second4_cont (get_or s 0 0) (get_or s 1 0)) h e
inner_cont s (suc (suc zero)) n e p h =
    third_byte n (leb (get_or s 0 0) 0x7F) (within (get_or s 0 0) 0xC2 0xDF) (cont (get_or s 1 0)) (within (get_or s 0 0) 0xE0 0xEF) (second3 (get_or s 0 0) (get_or s 1 0)) (cont (get_or s 2 0))
    (within (get_or s 0 0) 0xF0 0xF4) (second4 (get_or s 0 0) (get_or s 1 0)) (cont (get_or s 3 0)) h e
inner_cont s (suc (suc (suc zero))) n e p h =
    fourth_byte n (leb (get_or s 0 0) 0x7F) (within (get_or s 0 0) 0xC2 0xDF) (cont (get_or s 1 0)) (within (get_or s 0 0) 0xE0 0xEF) (second3 (get_or s 0 0) (get_or s 1 0)) (cont (get_or s 2 0))
    (within (get_or s 0 0) 0xF0 0xF4) (second4 (get_or s 0 0) (get_or s 1 0)) (cont (get_or s 3 0)) h e
inner_cont s (suc (suc (suc (suc j)))) n e p h =
    absurd
    (no_fifth n (leb (get_or s 0 0) 0x7F) (within (get_or s 0 0) 0xC2 0xDF) (cont (get_or s 1 0)) (within (get_or s 0 0) 0xE0 0xEF) (second3 (get_or s 0 0) (get_or s 1 0)) (cont (get_or s 2 0))
    (within (get_or s 0 0) 0xF0 0xF4) (second4 (get_or s 0 0) (get_or s 1 0)) (cont (get_or s 3 0)) (omega arith) e)

-- a byte that continues begins nothing
begins_none : (x : ℕ) (xs : List ℕ) → 0x80 ≤ x → x ≤ 0xBF → char_len (x ∷ xs) ≡ 0
unfolding char_len long_char
begins_none x xs l h =
    simp (lt-leb x 0x7F (omega arith), lt-leb 0xC2 x (omega arith), lt-leb 0xE0 x (omega arith), lt-leb 0xF0 x (omega arith))

pub first_begins : (x n : ℕ) (xs : List ℕ) → char_len (x ∷ xs) ≡ suc n → cont x ≡ false
first_begins x n xs e = by (leb 0x80 x) (leb x 0xBF) refl refl
  where
    by : (a b : Bool) → leb 0x80 x ≡ a → leb x 0xBF ≡ b → both a b ≡ false
    by true true p q = absurd (omega (arith, begins_none x xs (leb-true 0x80 x p) (leb-true x 0xBF q)))
    by true false p q = refl
    by false b p q = refl
