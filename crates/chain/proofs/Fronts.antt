-- The front of a table written anew, entry by entry, each by a function of what stood there. Assumes nothing.
use mathlib.Core.Path.{◌≡◌, refl, ap, ◌∙◌}
use mathlib.Core.List.{List, [], ◌∷◌, ◌++◌, map, append-nil}
use Prim.Native.Nat.{ℕ, zero, suc, ◌+◌, ◌-◌, ◌≤◌, ◌<◌}
use native.Mathlib.Nat.{sub-zero, le_of_suc-le-suc}
use native.Mathlib.Numerals.{add-one}
use native.Mathlib.Omega.{arith}
use lib.ListN.{length, get_or, take, drop, set, replicate, length-replicate, drop_of_length-le}
use lib.Seq.{drop-cons, sets, sets-eq}

-- written up to k of n: what is left to write
unfoldable pub Each : {A : Type 0} → (A → A) → ℕ → List A → List A → ℕ → Type 0
Each f n was rows k = sets rows k (map f (take (n - k) (drop k rows))) ≡ sets was 0 (map f (take n was))

drop_set : {A : Type 0} (rows : List A) (k : ℕ) (x : A) → drop (suc k) (set rows k x) ≡ drop (suc k) rows
drop_set [] k x = refl
drop_set (r ∷ rs) zero x = refl
drop_set (r ∷ rs) (suc k) x = drop_set rs k x

module _ {A : Type 0} (f : A → A) (n : ℕ) (was : List A) where
  pub each_start : Each f n was was 0
  unfolding Each
  each_start = rw (sub-zero n) refl

  pub each_on : (d : A) (rows : List A) (k : ℕ) (x : A) → k < n → n ≤ length rows → x ≡ f (get_or rows k d) → Each f n was rows k → Each f n was (set rows k x) (k + 1)
  unfolding Each
  each_on d rows k x h l ex e =
      let z : n - k ≡ suc (n - (k + 1)) = omega arith in
      let c : drop k rows ≡ get_or rows k d ∷ drop (suc k) rows = drop-cons rows k d (omega arith) in
      rw (ex, add-one k, drop_set) (rw (add-one k) at (rw (z, c) at e))

  pub each_end : (rows : List A) (k : ℕ) → n ≤ k → Each f n was rows k → rows ≡ sets was 0 (map f (take n was))
  unfolding Each
  each_end rows k h e = let z : n - k ≡ 0 = omega arith in rw z at e

-- ---- one and the same entry throughout
map_one : {A : Type 0} (x : A) (n : ℕ) (was : List A) → n ≤ length was → map (λ (y : A). x) (take n was) ≡ replicate n x
map_one x zero was h = refl
map_one x (suc n) [] h = absurd (omega arith)
map_one x (suc n) (w ∷ ws) h = ap (λ (r : List _). x ∷ r) (map_one x n ws (le_of_suc-le-suc h))

pub sets_all : {A : Type 0} (l w : List A) → length w ≡ length l → sets l 0 w ≡ w
sets_all l w e =
    let d : drop (0 + length w) l ≡ [] = drop_of_length-le l {i = 0 + length w} (omega arith) in
    sets-eq w l 0 (omega arith) ∙ ap (λ (r : List _). w ++ r) d ∙ append-nil w

-- blank up to k of n: what is left to clear
unfoldable pub Clearing : {A : Type 0} → A → ℕ → List A → List A → ℕ → Type 0
Clearing x n was rows k = Each (λ y. x) n was rows k

module _ {A : Type 0} (x : A) (n : ℕ) (was : List A) where
  pub clear_start : Clearing x n was was 0
  unfolding Clearing
  clear_start = each_start (λ (y : A). x) n was

  pub clear_on : (rows : List A) (k : ℕ) (y : A) → k < n → n ≤ length was → length rows ≡ length was → y ≡ x → Clearing x n was rows k → Clearing x n was (set rows k y) (k + 1)
  unfolding Clearing
  clear_on rows k y h l e ey q = each_on (λ (z : A). x) n was x rows k y h (omega arith) ey q

  pub clear_end : (rows : List A) (k : ℕ) → n ≤ length was → n ≤ k → Clearing x n was rows k → rows ≡ sets was 0 (replicate n x)
  unfolding Clearing
  clear_end rows k h l e = each_end (λ (y : A). x) n was rows k l e ∙ ap (λ (w : List A). sets was 0 w) (map_one x n was h)

pub clear_all : {A : Type 0} (x : A) (n : ℕ) (was rows : List A) → n ≡ length was → rows ≡ sets was 0 (replicate n x) → rows ≡ replicate (length was) x
clear_all x n was rows h e = rw h at e ∙ sets_all was (replicate (length was) x) (length-replicate (length was) x)

-- ---- a whole table
unfoldable pub Wiping : {A : Type 0} → A → List A → List A → ℕ → Type 0
Wiping x was rows k = Clearing x (length was) was rows k

module _ {A : Type 0} (x : A) (was : List A) where
  pub wipe_start : Wiping x was was 0
  unfolding Wiping
  wipe_start = clear_start x (length was) was

  pub wipe_on : (rows : List A) (k : ℕ) (y : A) → k < length rows → length rows ≡ length was → y ≡ x → Wiping x was rows k → Wiping x was (set rows k y) (k + 1)
  unfolding Wiping
  wipe_on rows k y h e ey q = clear_on x (length was) was rows k y (omega arith) (omega arith) e ey q

  pub wipe_end : (rows : List A) (k : ℕ) → length rows ≤ k → length rows ≡ length was → Wiping x was rows k → rows ≡ replicate (length was) x
  unfolding Wiping
  wipe_end rows k h e q = clear_all x (length was) was rows refl (clear_end x (length was) was rows k (omega arith) (omega arith) q)
