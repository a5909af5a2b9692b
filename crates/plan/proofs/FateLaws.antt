-- Each record has one of seven fates, so that the total is the number of records. Assumes nothing.
use mathlib.Core.Path.{◌≡◌, refl, ◌∙◌}
use mathlib.Core.Bool.{Bool, true, false}
use mathlib.Core.List.{List, [], ◌∷◌, ◌++◌}
use Prim.Native.Nat.{ℕ, zero, suc, ◌+◌}
use native.Mathlib.Omega.{arith}
use lib.IntN.{ℤ}
use lib.Dec.{eqb, ltb}
use lib.ListN.{length, length-append}
use Rattle.text.specs.Pick.{pick}
use Rattle.contacts.specs.Contacts.{Contact}
use Rattle.plan.specs.Entry.{Entry}
use Rattle.plan.specs.Fates.{fate_of, fate_at, fates_to, count}
use Rattle.plan.specs.Plan.{plan_from, planned, total_of, counts_with, counts_of, hits_of}
use Rattle.plan.proofs.CountLaws.{count_more}

-- one more record is one more in the total, whichever fate it has
abbrev one : ℕ → ℕ
one x = pick (eqb x 1) 1 0 + pick (eqb x 2) 1 0 + pick (eqb x 3) 1 0 + pick (eqb x 4) 1 0 + pick (eqb x 5) 1 0 + pick (eqb x 6) 1 0 + pick (eqb x 7) 1 0

total_more : (x : ℕ) (xs : List ℕ) → total_of (xs ++ (x ∷ [])) ≡ total_of xs + one x
total_more x xs =
    omega (arith, count_more 1 x xs, count_more 2 x xs, count_more 3 x xs, count_more 4 x xs, count_more 5 x xs, count_more 6 x xs, count_more 7 x xs)

one_of_seven : (reason : ℕ) (bears matched download repeated : Bool) → one (fate_of reason bears matched download repeated) ≡ 1
unfolding fate_of
one_of_seven reason bears matched download repeated = by (ltb 0 reason) bears matched download repeated
  where
    by : (u b m d r : Bool) → one (pick u 4 (pick b (pick m 5 6) (pick d 7 (pick m 2 (pick r 3 1))))) ≡ 1
    by true b m d r = refl
    by false true true d r = refl
    by false true false d r = refl
    by false false m true r = refl
    by false false true false r = refl
    by false false false false true = refl
    by false false false false false = refl

module _ (window : ℤ) (download : Bool) (entries : List Entry) (hits : List ℕ) where
  pub fates_many : (k : ℕ) → length (fates_to window download entries hits k) ≡ k
  unfolding fates_to
  fates_many zero = refl
  fates_many (suc k) = length-append (fates_to window download entries hits k) _ ∙ omega (arith, fates_many k)

  fates_total : (k : ℕ) → total_of (fates_to window download entries hits k) ≡ k
  unfolding fates_to fate_at count
  fates_total zero = refl
  fates_total (suc k) = total_more _ (fates_to window download entries hits k) ∙ rw (fates_total k, one_of_seven _ _ _ _ _) (omega arith)

-- the total that a plan counts is the number of its records
pub total_is : (window : ℤ) (download : Bool) (contacts : List Contact) (entries : List Entry) → (counts_of (planned window download contacts entries)).total ≡ length entries
unfolding counts_of counts_with planned plan_from
total_is window download contacts entries = fates_total window download entries (hits_of window contacts entries) (length entries)
