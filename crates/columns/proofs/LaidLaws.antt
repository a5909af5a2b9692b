-- No column's name stands twice, so a field of one name fills one column and leaves the others alone. Assumes nothing.
use Rattle.std.specs.Prelude.{Some, None}
use mathlib.Core.Path.{◌≡◌, refl, sym, ap, ◌∙◌}
use mathlib.Core.Bool.{Bool, true, false, not}
use mathlib.Core.List.{List, [], ◌∷◌, map}
use Prim.Native.Nat.{ℕ, zero, suc, ◌+◌, ◌-◌, ◌≤◌, ◌<◌}
use native.Mathlib.Nat.{not-suc-le-zero, le_of_suc-le-suc}
use native.Mathlib.Omega.{arith}
use lib.ListN.{length, get_or, set}
use Rattle.text.specs.Pick.{pick}
use Rattle.text.proofs.BoolLaws.{both_left, both_right}
use Rattle.letters.specs.Capitals.{raised, capitals}
use Rattle.letters.specs.Same.{same_raised}
use Rattle.letters.proofs.SameLaws.{same_refl, same_raised_true}
use Rattle.tables.specs.Table.{first_from, named}
use Rattle.tables.proofs.Tested.{all, pairs, all_at}
use Rattle.columns.specs.Columns.{column_names, column_named}

abbrev pub differ : List ℕ → List ℕ → Bool
differ x y = not (same_raised x y)

columns_differ : pairs differ column_names ≡ true
unfolding column_names same_raised raised
columns_differ = refl

-- a text is the same as one name only, of two that differ
both_are : (x n m : List ℕ) → same_raised x n ≡ true → same_raised x m ≡ true → same_raised n m ≡ true
unfolding same_raised
both_are x n m e r = rw (sym (same_raised_true x n e) ∙ same_raised_true x m r) (same_refl (capitals m))

alone : (x n m : List ℕ) → differ n m ≡ true → same_raised x n ≡ true → same_raised x m ≡ false
alone x n m d e = by (same_raised x m) refl
  where
    by : (b : Bool) → same_raised x m ≡ b → b ≡ false
    by false q = refl
    by true q =
        let r : same_raised n m ≡ true = both_are x n m e q in
        absurd (let z : ◌≡◌ {A = ℕ} 0 1 = cc in omega arith)

-- so the column that has the name is the one that is found
first_is : (x : List ℕ) (j k : ℕ) (ns : List (List ℕ)) → pairs differ ns ≡ true → k < length ns → same_raised x (get_or ns k []) ≡ true
    → first_from (same_raised x) j ns ≡ Some (j + k)
first_is x j k [] d h e = absurd (not-suc-le-zero h)
first_is x j zero (n ∷ ns) d h e =
    let z : j + 0 ≡ j = omega arith in
    rw (e, z) refl
first_is x j (suc k) (n ∷ ns) d h e =
    by (same_raised x n) refl (first_is x (suc j) k ns (both_right (all (differ n) ns) (pairs differ ns) d) (le_of_suc-le-suc h) e)
  where
    apart : differ n (get_or ns k []) ≡ true
    apart = all_at [] (differ n) ns (both_left (all (differ n) ns) (pairs differ ns) d) k (le_of_suc-le-suc h)

    by : (b : Bool) → same_raised x n ≡ b → first_from (same_raised x) (suc j) ns ≡ Some (suc j + k) → pick b (Some j) (first_from (same_raised x) (suc j) ns) ≡ Some (j + suc k)
    by true q r =
        let z : same_raised x (get_or ns k []) ≡ false = alone x n (get_or ns k []) apart q in
        absurd (let z : ◌≡◌ {A = ℕ} 0 1 = cc in omega arith)
    by false q r =
        let z : j + suc k ≡ suc j + k = omega arith in
        rw z r

pub is_column_lem : (x : List ℕ) (k : ℕ) → k < length column_names → same_raised x (get_or column_names k []) ≡ true → column_named x ≡ Some k
unfolding column_named named
is_column_lem x k h e =
    let z : 0 + k ≡ k = omega arith in
    rw z at (first_is x 0 k column_names columns_differ h e)

-- the entry that is found is counted from j on
pub found_within : {A : Type 0} (test : A → Bool) (j k : ℕ) (ns : List A) → first_from test j ns ≡ Some k → (j ≤ k) × (k < j + length ns)
found_within test j k [] e = absurd (let z : ◌≡◌ {A = ℕ} 0 1 = cc in omega arith)
found_within test j k (n ∷ ns) e = by (test n) e (λ q. found_within test (suc j) k ns q)
  where
    by : (b : Bool) → pick b (Some j) (first_from test (suc j) ns) ≡ Some k → (first_from test (suc j) ns ≡ Some k → (suc j ≤ k) × (k < suc j + length ns))
        → (j ≤ k) × (k < j + suc (length ns))
    by true q r =
        let z : j ≡ k = cc in
        (omega arith, omega arith)
    by false q r =
        let w : (suc j ≤ k) × (k < suc j + length ns) = r q in
        (omega (arith, w.0), omega (arith, w.1))

module _ {A : Type 0} (x : List ℕ) (v : A) (f g : List ℕ → A) (eg : (n : List ℕ) → g n ≡ pick (same_raised x n) v (f n)) where
  same_there : (n : List ℕ) → same_raised x n ≡ true → g n ≡ v
  same_there n e = eg n ∙ ap (λ (b : Bool). pick b v (f n)) e

  other_there : (n : List ℕ) → same_raised x n ≡ false → g n ≡ f n
  other_there n e = eg n ∙ ap (λ (b : Bool). pick b v (f n)) e

  -- none of the names: nothing is filled
  none_filled : (j : ℕ) (ns : List (List ℕ)) → first_from (same_raised x) j ns ≡ None → map g ns ≡ map f ns
  none_filled j [] e = refl
  none_filled j (n ∷ ns) e = by (same_raised x n) refl e (λ q. none_filled (suc j) ns q)
    where
      by : (b : Bool) → same_raised x n ≡ b → pick b (Some j) (first_from (same_raised x) (suc j) ns) ≡ None
          → (first_from (same_raised x) (suc j) ns ≡ None → map g ns ≡ map f ns) → g n ∷ map g ns ≡ f n ∷ map f ns
      by true p q r = absurd (let z : ◌≡◌ {A = ℕ} 0 1 = cc in omega arith)
      by false p q r =
          let h : g n ≡ f n = other_there n p in
          let t : map g ns ≡ map f ns = r q in
          cc

  -- names that differ from the one
  rest_alone : (n : List ℕ) (ns : List (List ℕ)) → same_raised x n ≡ true → all (differ n) ns ≡ true → map g ns ≡ map f ns
  rest_alone n [] e d = refl
  rest_alone n (m ∷ ms) e d =
      let h : g m ≡ f m = other_there m (alone x n m (both_left (differ n m) (all (differ n) ms) d) e) in
      let t : map g ms ≡ map f ms = rest_alone n ms e (both_right (differ n m) (all (differ n) ms) d) in
      cc

  one_filled : (j k : ℕ) (ns : List (List ℕ)) → pairs differ ns ≡ true → first_from (same_raised x) j ns ≡ Some k → map g ns ≡ set (map f ns) (k - j) v
  one_filled j k [] d e = refl
  one_filled j k (n ∷ ns) d e = by (same_raised x n) refl e (λ q. one_filled (suc j) k ns (both_right (all (differ n) ns) (pairs differ ns) d) q)
    where
      by : (b : Bool) → same_raised x n ≡ b → pick b (Some j) (first_from (same_raised x) (suc j) ns) ≡ Some k
          → (first_from (same_raised x) (suc j) ns ≡ Some k → map g ns ≡ set (map f ns) (k - suc j) v) → g n ∷ map g ns ≡ set (f n ∷ map f ns) (k - j) v
      by true p q r =
          let z : j ≡ k = cc in
          let w : k - j ≡ 0 = omega arith in
          let h : g n ≡ v = same_there n p in
          let t : map g ns ≡ map f ns = rest_alone n ns p (both_left (all (differ n) ns) (pairs differ ns) d) in
          rw (w, h, t) refl
      by false p q r =
          let w : k - j ≡ suc (k - suc j) = omega (arith, (found_within (same_raised x) (suc j) k ns q).0) in
          let h : g n ≡ f n = other_there n p in
          rw (w, h, r q) refl

  pub no_column_filled : column_named x ≡ None → map g column_names ≡ map f column_names
  unfolding column_named named
  no_column_filled e = none_filled 0 column_names e

  pub column_filled : (k : ℕ) → column_named x ≡ Some k → map g column_names ≡ set (map f column_names) k v
  unfolding column_named named
  column_filled k e =
      let w : k - 0 ≡ k = omega arith in
      rw w at (one_filled 0 k column_names columns_differ e)

pub column_below : (x : List ℕ) (k : ℕ) → column_named x ≡ Some k → k < 13
unfolding column_named named column_names
column_below x k e = (found_within (same_raised x) 0 k column_names e).1
