-- Laws of `specs/Order.antt`: the order is strict, total and transitive; and what a loop over both texts asks. Assumes nothing.
use Rattle.std.specs.declared.cmp.Ordering.{Ordering}
use Rattle.std.specs.declared.cmp.Ordering.TheVariants.{Less, Equal, Greater}
use mathlib.Core.Path.{◌≡◌, refl, sym, ◌∙◌}
use mathlib.Core.Bool.{Bool, true, false}
use mathlib.Core.List.{List, [], ◌∷◌}
use Prim.Native.Nat.{ℕ, suc, ◌+◌, ◌≤◌, ◌<◌}
use native.Mathlib.Numerals.{add-one}
use native.Mathlib.Omega.{arith}
use lib.ListN.{length, get_or, drop, drop_of_length-le}
use lib.Seq.{drop-cons}
use lib.Dec.{ltb}
use borrow.Author.Tests.{lt-ltb, le-ltb, ltb-true, ltb-false}
use Rattle.letters.specs.Capitals.{raised, capitals}
use Rattle.letters.specs.Order.{order, order_raised}

-- no two answers are one
less_equal : Less ≡ Equal → ⊥
less_equal e = let z : ◌≡◌ {A = ℕ} 0 1 = cc in omega arith

less_greater : Less ≡ Greater → ⊥
less_greater e = let z : ◌≡◌ {A = ℕ} 0 1 = cc in omega arith

equal_greater : Equal ≡ Greater → ⊥
equal_greater e = let z : ◌≡◌ {A = ℕ} 0 1 = cc in omega arith

-- of two first bytes, by how they compare
module _ (x y : ℕ) (xs ys : List ℕ) where
  pub first_below : x < y → order (x ∷ xs) (y ∷ ys) ≡ Less
  first_below h = simp (lt-ltb x y h)

  pub first_above : y < x → order (x ∷ xs) (y ∷ ys) ≡ Greater
  first_above h = simp (le-ltb x y (omega arith), lt-ltb y x h)

  pub first_same : x ≡ y → order (x ∷ xs) (y ∷ ys) ≡ order xs ys
  first_same h = simp (le-ltb x y (omega arith), le-ltb y x (omega arith))

-- what the answer says of the first bytes
data First (x y : ℕ) (xs ys : List ℕ) : Type 0 where
  below : x < y → First x y xs ys
  above : y < x → First x y xs ys
  level : x ≡ y → First x y xs ys

first : (x y : ℕ) (xs ys : List ℕ) → First x y xs ys
first x y xs ys = by (ltb x y) (ltb y x) refl refl
  where
    by : (s t : Bool) → ltb x y ≡ s → ltb y x ≡ t → First x y xs ys
    by true t e d = below (ltb-true x y e)
    by false true e d = above (ltb-true y x d)
    by false false e d = level (omega (arith, ltb-false x y e, ltb-false y x d))

pub order_refl : (xs : List ℕ) → order xs xs ≡ Equal
order_refl [] = refl
order_refl (x ∷ xs) = first_same x x xs xs refl ∙ order_refl xs

pub order_equal : (xs ys : List ℕ) → order xs ys ≡ Equal → xs ≡ ys
order_equal [] [] e = refl
order_equal [] (y ∷ ys) e = absurd (less_equal e)
order_equal (x ∷ xs) [] e = absurd (equal_greater (sym e))
order_equal (x ∷ xs) (y ∷ ys) e = by (first x y xs ys) (λ q. order_equal xs ys q)
  where
    by : First x y xs ys → (order xs ys ≡ Equal → xs ≡ ys) → x ∷ xs ≡ y ∷ ys
    by (below h) k = absurd (less_equal (sym (first_below x y xs ys h) ∙ e))
    by (above h) k = absurd (equal_greater (sym e ∙ first_above x y xs ys h))
    by (level h) k =
        let r : xs ≡ ys = k (sym (first_same x y xs ys h) ∙ e) in
        cc

-- turned round, the answer is the other one: so of two different texts one is the lesser
pub order_turn : (xs ys : List ℕ) → order xs ys ≡ Greater → order ys xs ≡ Less
order_turn [] [] e = absurd (equal_greater e)
order_turn [] (y ∷ ys) e = absurd (less_greater e)
order_turn (x ∷ xs) [] e = refl
order_turn (x ∷ xs) (y ∷ ys) e = by (first x y xs ys) (λ q. order_turn xs ys q)
  where
    by : First x y xs ys → (order xs ys ≡ Greater → order ys xs ≡ Less) → order (y ∷ ys) (x ∷ xs) ≡ Less
    by (below h) k = absurd (less_greater (sym (first_below x y xs ys h) ∙ e))
    by (above h) k = first_below y x ys xs h
    by (level h) k = first_same y x ys xs (sym h) ∙ k (sym (first_same x y xs ys h) ∙ e)

pub order_flip : (xs ys : List ℕ) → order xs ys ≡ Less → order ys xs ≡ Greater
order_flip [] [] e = absurd (less_equal (sym e))
order_flip [] (y ∷ ys) e = refl
order_flip (x ∷ xs) [] e = absurd (less_greater (sym e))
order_flip (x ∷ xs) (y ∷ ys) e = by (first x y xs ys) (λ q. order_flip xs ys q)
  where
    by : First x y xs ys → (order xs ys ≡ Less → order ys xs ≡ Greater) → order (y ∷ ys) (x ∷ xs) ≡ Greater
    by (below h) k = first_above y x ys xs h
    by (above h) k = absurd (less_greater (sym e ∙ first_above x y xs ys h))
    by (level h) k = first_same y x ys xs (sym h) ∙ k (sym (first_same x y xs ys h) ∙ e)

pub order_trans : (xs ys zs : List ℕ) → order xs ys ≡ Less → order ys zs ≡ Less → order xs zs ≡ Less
order_trans [] [] zs p q = absurd (less_equal (sym p))
order_trans [] (y ∷ ys) [] p q = absurd (less_greater (sym q))
order_trans [] (y ∷ ys) (z ∷ zs) p q = refl
order_trans (x ∷ xs) [] zs p q = absurd (less_greater (sym p))
order_trans (x ∷ xs) (y ∷ ys) [] p q = absurd (less_greater (sym q))
order_trans (x ∷ xs) (y ∷ ys) (z ∷ zs) p q = by (first x y xs ys) (first y z ys zs) (λ a b. order_trans xs ys zs a b)
  where
    by : First x y xs ys → First y z ys zs → (order xs ys ≡ Less → order ys zs ≡ Less → order xs zs ≡ Less) → order (x ∷ xs) (z ∷ zs) ≡ Less
    by (above h) s k = absurd (less_greater (sym p ∙ first_above x y xs ys h))
    by (below h) (above g) k = absurd (less_greater (sym q ∙ first_above y z ys zs g))
    by (below h) (below g) k = first_below x z xs zs (omega arith)
    by (below h) (level g) k = first_below x z xs zs (omega arith)
    by (level h) (above g) k = absurd (less_greater (sym q ∙ first_above y z ys zs g))
    by (level h) (below g) k = first_below x z xs zs (omega arith)
    by (level h) (level g) k =
        first_same x z xs zs (h ∙ g) ∙ k (sym (first_same x y xs ys h) ∙ p) (sym (first_same y z ys zs g) ∙ q)

-- what a loop carries: from i on the two compare as the whole, x and y being the two bytes at i, raised
module _ (a b : List ℕ) (i : ℕ) (r : Ordering) (q : order_raised (drop i a) (drop i b) ≡ r) where
  module _ (h : i < length a) where
    pub second_ended : length b ≤ i → Greater ≡ r
    unfolding order_raised
    second_ended l = simp (drop-cons a i 0 h, drop_of_length-le b l) at q

    module _ (x y : ℕ) (l : i < length b) (ex : x ≡ raised (get_or a i 0)) (ey : y ≡ raised (get_or b i 0)) where
      cut : order (x ∷ capitals (drop (suc i) a)) (y ∷ capitals (drop (suc i) b)) ≡ r
      unfolding order_raised
      cut = rw (ex, ey) (rw (drop-cons a i 0 h, drop-cons b i 0 l) at q)

      pub at_below : x < y → Less ≡ r
      at_below n = sym (first_below x y (capitals (drop (suc i) a)) (capitals (drop (suc i) b)) n) ∙ cut

      pub at_above : y < x → Greater ≡ r
      at_above n = sym (first_above x y (capitals (drop (suc i) a)) (capitals (drop (suc i) b)) n) ∙ cut

      pub at_level : x ≤ y → y ≤ x → order_raised (drop (i + 1) a) (drop (i + 1) b) ≡ r
      unfolding order_raised
      at_level m n = rw add-one (sym (first_same x y (capitals (drop (suc i) a)) (capitals (drop (suc i) b)) (omega arith)) ∙ cut)

  pub first_ended : length a ≤ i → i < length b → Less ≡ r
  unfolding order_raised
  first_ended h l = simp (drop_of_length-le a h, drop-cons b i 0 l) at q

  pub both_ended : length a ≤ i → length b ≤ i → Equal ≡ r
  unfolding order_raised
  both_ended h l = simp (drop_of_length-le a h, drop_of_length-le b l) at q
