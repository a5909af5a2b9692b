-- Counting fates. Assumes nothing.
use mathlib.Core.Path.{◌≡◌, refl, sym, ap, ◌∙◌}
use mathlib.Core.Bool.{Bool, true, false}
use mathlib.Core.List.{List, [], ◌∷◌, ◌++◌}
use Prim.Native.Nat.{ℕ, zero, suc, ◌+◌, ◌-◌, ◌≤◌, ◌<◌}
use native.Mathlib.Numerals.{add-one}
use native.Mathlib.Omega.{arith}
use lib.Dec.{eqb}
use lib.ListN.{length, get_or, take}
use lib.Seq.{length-take-le}
use mir.Val.{bool_byte}
use Rattle.std.proofs.lemmas.List.{get_or-take}
use Rattle.text.specs.Pick.{pick}
use Rattle.chain.specs.Chain.{col}
use Rattle.plan.specs.Fates.{count, fates_in}
use Rattle.plan.specs.Plan.{total_of}

pub count_more : (f x : ℕ) (xs : List ℕ) → count f (xs ++ (x ∷ [])) ≡ count f xs + pick (eqb x f) 1 0
unfolding count
count_more f x [] = by (eqb x f)
  where
    by : (t : Bool) → pick t 1 0 ≡ 0 + pick t 1 0
    by true = refl
    by false = refl
count_more f x (y ∷ ys) = by (eqb y f) (count_more f x ys)
  where
    by : (t : Bool) → count f (ys ++ (x ∷ [])) ≡ count f ys + pick (eqb x f) 1 0 → pick t (suc (count f (ys ++ (x ∷ [])))) (count f (ys ++ (x ∷ []))) ≡ pick t (suc (count f ys)) (count f ys) + pick (eqb x f) 1 0
    by true e = ap suc e ∙ omega arith
    by false e = e

pub none_yet : (f : ℕ) (rows : List (List ℕ)) → 0 ≡ count f (fates_in rows 0)
unfolding count fates_in
none_yet f rows = refl

pub byte_is : (b : Bool) → bool_byte b ≡ pick b 1 0
byte_is true = refl
byte_is false = refl

-- ---- i of the first n rows are counted
module _ (f : ℕ) (rows : List (List ℕ)) (n i found : ℕ) (room : n ≤ length rows) (e : found ≡ count f (fates_in rows i)) where
  pub count_on : (o : ℕ) → i < length (take n rows) → o ≡ bool_byte (eqb (get_or (get_or (take n rows) i []) 0 0) f) → found + o ≡ count f (fates_in rows (i + 1))
  unfolding fates_in
  count_on o h eo =
      let l : i < n = omega (arith, length-take-le n rows room) in
      let z : get_or (take n rows) i [] ≡ get_or rows i [] = get_or-take n rows i [] l in
      let x : o ≡ pick (eqb (col rows i 0) f) 1 0 = rw z at (eo ∙ byte_is _) in
      rw (add-one i, e, x) (sym (count_more f (col rows i 0) (fates_in rows i)))

  pub count_end : i ≤ length (take n rows) → length (take n rows) ≤ i → found ≡ count f (fates_in rows n)
  count_end g h =
      let z : i ≡ n = omega (arith, length-take-le n rows room) in
      e ∙ rw z refl

-- ---- the counts of the fates 1 to k together
unfoldable pub sum_to : ℕ → List ℕ → ℕ
sum_to zero fates = 0
sum_to (suc k) fates = sum_to k fates + count (suc k) fates

pub sum_none : (fates : List ℕ) → 0 ≡ sum_to 0 fates
unfolding sum_to
sum_none fates = refl

pub sum_more : (fates : List ℕ) (f total x : ℕ) → 1 ≤ f → total ≡ sum_to (f - 1) fates → x ≡ count f fates → total + x ≡ sum_to (f + 1 - 1) fates
unfolding sum_to
sum_more fates zero total x h e ex = absurd (omega arith)
sum_more fates (suc f) total x h e ex =
    let z : suc f - 1 ≡ f = omega arith in
    let y : suc f + 1 - 1 ≡ suc f = omega arith in
    rw (y, rw z at e, ex) refl

pub sum_all : (fates : List ℕ) (f total : ℕ) → f ≡ 8 → total ≡ sum_to (f - 1) fates → total ≡ total_of fates
unfolding sum_to
sum_all fates f total h e =
    let y : f - 1 ≡ 7 = omega arith in
    (rw y at e) ∙ omega arith
