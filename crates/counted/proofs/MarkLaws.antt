-- A record put into its chain. Assumes nothing.
use mathlib.Core.Path.{◌≡◌, refl, ◌∙◌}
use mathlib.Core.List.{List, []}
use Prim.Native.Nat.{ℕ, ◌+◌, ◌%◌, ◌≤◌, ◌<◌}
use native.Mathlib.Nat.{mod-lt}
use native.Mathlib.Numerals.{add-one}
use native.Mathlib.Omega.{arith}
use lib.ListN.{length, get_or, set, drop, length-set}
use lib.Seq.{drop-set-lt}
use Rattle.chain.specs.Chain.{col, Pushed}
use Rattle.chain.proofs.Chains.{kept, kept_of_lem, stored, other}
use Rattle.entries.specs.Row.{Row}
use Rattle.counted.specs.Counted.{code_in, with_services, with_head, serviced, marked}

pub mark_is : (rows : List Row) (n k p was services : ℕ) (x y : Row) → p ≡ code_in (get_or rows k []) → was ≡ get_or (get_or rows (p % n) []) 25 0 → x ≡ with_services (get_or rows k []) services was → y ≡ with_head (get_or (set rows k x) (p % n) []) (k + 1)
    → set (set rows k x) (p % n) y ≡ marked rows (code_in (get_or rows k []) % n) k services
unfolding marked
mark_is rows n k p was services x y ep e f g = rw (g, f, e, add-one, ep) refl

pub bucket_in : (rows : List Row) (n k p : ℕ) → n ≤ length rows → k < n → p % n < length rows
bucket_in rows n k p h l = let m : p % n < n = mod-lt p (omega arith) in omega arith

module _ (rows : List Row) (b k services : ℕ) where
  mid : List Row
  mid = serviced rows k services (col rows b 25)

  -- what is left alone
  pub marked_kept : {A : Type 0} (f : Row → A) → ((r : Row) (v next : ℕ) → f (with_services r v next) ≡ f r) → ((r : Row) (v : ℕ) → f (with_head r v) ≡ f r) → (j : ℕ) → f (get_or (marked rows b k services) j []) ≡ f (get_or rows j [])
  unfolding marked mid
  marked_kept f p q j = kept_of_lem f mid b _ j (q _ _) ∙ kept_of_lem f rows k _ j (p _ _ _)

  pub marked_length : length (marked rows b k services) ≡ length rows
  unfolding marked
  marked_length = simp length-set

  pub marked_behind : (n : ℕ) → b < n → k < n → drop n (marked rows b k services) ≡ drop n rows
  unfolding marked mid
  marked_behind n hb hk = drop-set-lt n mid b _ hb ∙ drop-set-lt n rows k _ hk

  module _ (hk : k < length rows) where
    pub marked_there : col (marked rows b k services) k 24 ≡ services
    unfolding marked mid
    marked_there = kept mid b _ 24 k refl ∙ stored rows k _ 24 hk

    pub marked_else : (j : ℕ) → (j ≡ k → ⊥) → col (marked rows b k services) j 24 ≡ col rows j 24
    unfolding marked mid
    marked_else j n = kept mid b _ 24 j refl ∙ other rows k _ 24 j n

    pub mark_does : b < length rows → Pushed b k (λ a. col rows a 25) (λ j. col rows j 26) (λ a. col (marked rows b k services) a 25) (λ j. col (marked rows b k services) j 26)
    unfolding marked mid
    mark_does hb =
        record {
          head_there = stored mid b _ 25 (rw length-set hb);
          head_else = λ j n. other mid b _ 25 j n ∙ kept rows k _ 25 j refl;
          next_there = kept mid b _ 26 k refl ∙ stored rows k _ 26 hk;
          next_else = λ j n. kept mid b _ 26 j refl ∙ other rows k _ 26 j n;
        }
