-- The records of a list, laid one after the other, and zero behind them. Assumes nothing.
use mathlib.Core.Path.{◌≡◌, refl, ap, ◌∙◌}
use mathlib.Core.List.{List, ◌∷◌, ◌++◌}
use Prim.Native.Nat.{ℕ, suc, ◌+◌, ◌-◌, ◌≤◌, ◌<◌}
use native.Mathlib.Nat.{sub-zero}
use native.Mathlib.Numerals.{add-one}
use native.Mathlib.Omega.{arith}
use lib.ListN.{length, set, replicate, length-set}
use lib.Seq.{sets}
use lib.Dec.{ltb}
use borrow.Author.Tests.{lt-ltb, le-ltb, ltb-true, ltb-false}
use Rattle.text.proofs.BoolLaws.{cases}
use Rattle.contacts.specs.Lists.{end_at, id_at}
use Rattle.contacts.proofs.ListLaws.{good_inside, entries_next}
use Rattle.index.specs.Rows.{Row, row_at, rows_from, no_row}
use Rattle.index.specs.Contacts.{contact_of, numbers_of, plain}
use Rattle.index.specs.declared.Contact.{Contact}
use Rattle.index.proofs.ContactLaws.{plain_set, row_back, none_back}
use Rattle.indexing.specs.Index.{record_at, place_after, Checked, Sound}

-- ---- one record
module _ (s : List ℕ) (at k n : ℕ) (c : Contact) (r : Row) (e : c ≡ contact_of r) where
  pub record_there : k < n → r ≡ row_at s at → c ≡ contact_of (record_at s at k n)
  unfolding record_at
  record_there h f = rw (lt-ltb k n h) (e ∙ ap contact_of f)

  pub record_none : n ≤ k → r ≡ no_row → c ≡ contact_of (record_at s at k n)
  unfolding record_at
  record_none h f = rw (le-ltb k n h) (e ∙ ap contact_of f)

pub after_there : (s : List ℕ) (at k n to : ℕ) → k < n → to ≡ end_at s at → to ≡ place_after s at k n
unfolding place_after
after_there s at k n to h e = rw (lt-ltb k n h) e

pub after_none : (s : List ℕ) (at k n : ℕ) → n ≤ k → at ≡ place_after s at k n
unfolding place_after
after_none s at k n h = rw (le-ltb k n h) refl

-- ---- the records of m places: those of n contacts from `at` on, and zero behind them
unfoldable pub laid_from : List ℕ → ℕ → ℕ → ℕ → List Row
laid_from s n m at = rows_from s n at ++ replicate (m - n) no_row

-- k of m are laid; those of the entries from `at` on are left, and good
pub record Filling (s : List ℕ) (n m : ℕ) (was : List Contact) (k at : ℕ) (rows : List Contact) : Type 0 where
  pub within : k ≤ m
  pub same : length rows ≡ length was
  pub good : k < n → (at ≤ length s) × Checked s n (n - k) at
  pub left : sets (plain rows) k (laid_from s (n - k) (m - k) at) ≡ sets (plain was) 0 (laid_from s n m 5)

module _ (s : List ℕ) (n m : ℕ) (was : List Contact) (le : n ≤ m) (S : 0 < n → Sound s n) where
  pub fill_start : Filling s n m was 0 5 was
  fill_start = record {
    within = omega arith;
    same = refl;
    good = λ h. ((S h).whole, rw (sub-zero n) (S h).checked);
    left = rw (sub-zero n, sub-zero m) refl;
  }

  module _ (k at : ℕ) (rows : List Contact) (q : Filling s n m was k at rows) where
    pub fill_place : k < n → at ≤ 16777216
    fill_place h = let S' = S (omega arith) in omega (arith, (q.good h).0, S'.short)

    module _ (h : k < m) where
      left_there : k < n → laid_from s (n - k) (m - k) at ≡ row_at s at ∷ laid_from s (n - (k + 1)) (m - (k + 1)) (end_at s at)
      unfolding laid_from rows_from
      left_there l =
          let x : n - k ≡ suc (n - (k + 1)) = omega arith in
          let z : m - k - suc (n - (k + 1)) ≡ m - (k + 1) - (n - (k + 1)) = omega arith in rw (x, z) refl

      left_none : n ≤ k → laid_from s (n - k) (m - k) at ≡ no_row ∷ laid_from s (n - (k + 1)) (m - (k + 1)) at
      unfolding laid_from rows_from
      left_none l =
          let x : n - k ≡ 0 = omega arith in
          let y : n - (k + 1) ≡ 0 = omega arith in
          let z : m - k - 0 ≡ suc (m - (k + 1) - 0) = omega arith in rw (x, y, z) refl

      laid : (c : Contact) (r : Row) (to : ℕ) → numbers_of c ≡ r → laid_from s (n - k) (m - k) at ≡ r ∷ laid_from s (n - (k + 1)) (m - (k + 1)) to
          → sets (plain (set rows k c)) (k + 1) (laid_from s (n - (k + 1)) (m - (k + 1)) to) ≡ sets (plain was) 0 (laid_from s n m 5)
      laid c r to e f = rw (plain_set rows k c, e, add-one k) (rw (add-one k) at (rw f at q.left))

      pub fill_on : (c : Contact) → c ≡ contact_of (record_at s at k n) → (to : ℕ) → to ≡ place_after s at k n → Filling s n m was (k + 1) to (set rows k c)
      unfolding record_at place_after Checked
      fill_on c ec to et =
          cases (ltb k n)
          (λ u. let l : k < n = ltb-true k n u in
          let x : n - k ≡ suc (n - (k + 1)) = omega arith in
          let here : Checked s n (suc (n - (k + 1))) at = rw x at (q.good l).1 in
          let N = entries_next s n n here.1 (n - (k + 1)) at here.0 here.2 in
          let et' : to ≡ end_at s at = rw u at et in
          let ec' : c ≡ contact_of (row_at s at) = rw u at ec in
          record {
            within = omega arith;
            same = length-set rows k c ∙ q.same;
            good = λ l'. rw et' (good_inside s at N.good, (id_at s at, here.1, N.rest));
            left = rw et' (laid c (row_at s at) (end_at s at) (ap numbers_of ec' ∙ row_back s at) (left_there l));
          })
          (λ u. let l : n ≤ k = ltb-false k n u in
          let et' : to ≡ at = rw u at et in
          let ec' : c ≡ contact_of no_row = rw u at ec in
          record {
            within = omega arith;
            same = length-set rows k c ∙ q.same;
            good = λ l'. absurd (omega arith);
            left = rw et' (laid c no_row at (ap numbers_of ec' ∙ none_back) (left_none l));
          })

    pub fill_end : m ≤ k → plain rows ≡ sets (plain was) 0 (rows_from s n 5 ++ replicate (m - n) no_row)
    unfolding laid_from rows_from
    fill_end h =
        let x : m - k ≡ 0 = omega arith in
        let y : n - k ≡ 0 = omega (arith, le) in rw (x, y) at q.left
