-- Fates and reasons kept, row by row. Assumes nothing.
use mathlib.Core.Path.{◌≡◌, refl, sym, ◌∙◌}
use native.Mathlib.Omega.{arith}
use mathlib.Core.List.{List, [], ◌∷◌, ◌++◌}
use Prim.Native.Nat.{ℕ, ◌+◌, ◌≤◌, ◌<◌}
use lib.ListN.{length, get_or, set, take, drop, length-map, replicate, drop_of_length-le}
use borrow.Rule.Slice.PartMut.{put_mid}
use lib.Seq.{sets, sets-eq, length-take-le, take_all}
use Rattle.chain.proofs.Fronts.{Each, each_start, each_on, each_end, sets_all}
use Rattle.entries.specs.Row.{Row}
use Rattle.wiped.specs.Kept.{kept_row, kept_rows}

-- kept up to k: what is left to wipe
unfoldable pub Keeping : ℕ → List Row → List Row → ℕ → Type 0
Keeping n was rows k = Each kept_row n was rows k

module _ (n : ℕ) (was : List Row) where
  pub keep_start : Keeping n was was 0
  unfolding Keeping
  keep_start = each_start kept_row n was

  pub keep_on : (rows : List Row) (k : ℕ) (x : Row) → k < n → n ≤ length rows → x ≡ kept_row (get_or rows k []) → Keeping n was rows k → Keeping n was (set rows k x) (k + 1)
  unfolding Keeping
  keep_on rows k x h l ex q = each_on kept_row n was [] rows k x h l ex q

  pub keep_items : n ≤ length was → (items : List Row) (k : ℕ) → length (take n was) ≤ k → Keeping n (take n was) items k → items ++ drop n was ≡ sets was 0 (kept_rows was n)
  unfolding Keeping
  keep_items h items k l q =
      let t : length (take n was) ≡ n = length-take-le n was h in
      let m : length (kept_rows was n) ≡ n = length-map (take n was) kept_row ∙ t in
      let tt : take n (take n was) ≡ take n was = take_all n (take n was) (omega (arith, t)) in
      let e : items ≡ kept_rows was n =
      each_end kept_row n (take n was) items k (omega arith) q
      ∙ rw tt (sets_all (take n was) (kept_rows was n) (m ∙ sym t)) in
      let z : 0 + length (kept_rows was n) ≡ n = omega arith in
      rw e (sym (sets-eq (kept_rows was n) was 0 (omega arith) ∙ rw z refl))

-- all but the first two numbers cleared
pub rest_blank : (r new : Row) (m : ℕ) → length r ≡ 28 → m ≡ 26 → new ≡ replicate m 0 → put_mid 2 26 r new ≡ kept_row r
rest_blank [] new m h e n = absurd (omega arith)
rest_blank (x ∷ []) new m h e n = absurd (omega arith)
rest_blank (x ∷ y ∷ rest) new m h e n =
    let d : drop 26 rest ≡ [] = drop_of_length-le rest {i = 26} (omega arith) in
    rw (n, e, d) refl
