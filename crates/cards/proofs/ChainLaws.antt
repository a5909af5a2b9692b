-- The chains after each record: those of the records at which a service counted. Assumes nothing.
use mathlib.Core.Path.{◌≡◌, refl, sym, ap, ◌∙◌, subst}
use mathlib.Core.Bool.{Bool, true, false}
use mathlib.Core.List.{List, []}
use Prim.Native.Nat.{ℕ, ◌+◌, ◌%◌, ◌≤◌, ◌<◌}
use native.Mathlib.Nat.{mod-lt}
use native.Mathlib.Omega.{arith}
use lib.Dec.{eqb, ltb}
use lib.ListN.{length, get_or}
use borrow.Author.Tests.{eqb-true, eqb-false, lt-ltb}
use Rattle.text.specs.Pick.{pick}
use Rattle.text.proofs.BoolLaws.{cases}
use Rattle.chain.specs.Chain.{col, Linked, Pushed}
use Rattle.chain.proofs.Chains.{linked_more, linked_without, linked_as, linked_none}
use Rattle.entries.specs.Row.{Row}
use Rattle.counted.specs.Counted.{code_in, bucket_of, marked}
use Rattle.counted.proofs.MarkLaws.{marked_kept, marked_length, marked_behind, marked_there, marked_else, mark_does}
use Rattle.cards.specs.Carded.{kept_of, Kept}
use Rattle.cards.specs.Steps.{rows_at}

abbrev hds : List Row → ℕ → ℕ
hds rows b = col rows b 25

abbrev nxs : List Row → ℕ → ℕ
nxs rows j = col rows j 26

-- the first k of n records are in their chains, and nothing of a row has changed but what belongs to these
pub record Chained (n k : ℕ) (was rows : List Row) : Type 0 where
  pub kept : Kept n was rows
  pub links : Linked (bucket_of rows n) n k (λ b. col rows b 25) (λ j. col rows j 26)
  pub left : (j : ℕ) → k ≤ j → j < n → col rows j 24 ≡ 0

pub chained_none : (n : ℕ) (was : List Row) → ((j : ℕ) → j < n → col was j 24 ≡ 0) → ((j : ℕ) → j < n → col was j 25 ≡ 0) → Chained n 0 was was
chained_none n was s h =
    record {
      kept = record { lengths = refl; kept = λ j. refl; behind = refl };
      links = linked_none (bucket_of was n) n (hds was) (nxs was) h;
      left = λ j a b. s j b;
    }

codes_kept : (r : Row) → code_in r ≡ code_in (kept_of r)
unfolding code_in
codes_kept r = refl

module _ (n k : ℕ) (was rows : List Row) (C : Chained n k was rows) (h : k < n) (room : n ≤ length rows) where
  passed_on : Chained n (k + 1) was rows
  passed_on =
      let z : bucket_of rows n k ≡ n = ap (λ (x : ℕ). pick (ltb 0 x) (code_in (get_or rows k []) % n) n) (C.left k (omega arith) h) in
      record {
        kept = C.kept;
        links = linked_without (bucket_of rows n) n k (hds rows) (nxs rows) C.links (omega arith);
        left = λ j a b. C.left j (omega arith) b;
      }

  module _ (services : ℕ) (some : services ≡ 0 → ⊥) where
    abbrev b : ℕ
    b = code_in (get_or rows k []) % n

    abbrev on : List Row
    on = marked rows b k services

    hb : b < n
    hb = mod-lt (code_in (get_or rows k [])) (omega arith)

    hk : k < length rows
    hk = omega arith

    kept_on : (j : ℕ) → kept_of (get_or on j []) ≡ kept_of (get_or rows j [])
    kept_on j = marked_kept rows b k services kept_of (λ r v x. refl) (λ r v. refl) j

    code_on : (j : ℕ) → code_in (get_or on j []) ≡ code_in (get_or rows j [])
    code_on j = codes_kept (get_or on j []) ∙ ap code_in (kept_on j) ∙ sym (codes_kept (get_or rows j []))

    bucket_old : (j : ℕ) → j < k → bucket_of rows n j ≡ bucket_of on n j
    bucket_old j l =
        ap (λ (x : ℕ). pick (ltb 0 x) (code_in (get_or rows j []) % n) n) (sym (marked_else rows b k services hk j (λ z. omega arith)))
        ∙ ap (λ (x : ℕ). pick (ltb 0 (col on j 24)) (x % n) n) (sym (code_on j))

    bucket_new : bucket_of on n k ≡ b
    bucket_new =
        let p : ltb 0 (col on k 24) ≡ true = lt-ltb 0 (col on k 24) (omega (arith, marked_there rows b k services hk, some)) in
        ap (λ (x : Bool). pick x (code_in (get_or on k []) % n) n) p ∙ ap (λ (x : ℕ). x % n) (code_on k)

    marked_on : Chained n (k + 1) was on
    marked_on =
        record {
          kept = record {
            lengths = marked_length rows b k services ∙ C.kept.lengths;
            kept = λ j. kept_on j ∙ C.kept.kept j;
            behind = marked_behind rows b k services n hb h ∙ C.kept.behind;
          };
          links = linked_more (bucket_of on n) n k (hds rows) (nxs rows) (linked_as (bucket_of rows n) (bucket_of on n) n k (hds rows) (nxs rows) bucket_old C.links) (hds on) (nxs on)
              (subst (λ (x : ℕ). Pushed x k (hds rows) (nxs rows) (hds on) (nxs on)) (sym bucket_new) (mark_does rows b k services hk (omega (arith, hb))))
              (omega (arith, bucket_new, hb));
          left = λ j a l. marked_else rows b k services hk j (λ z. omega arith) ∙ C.left j (omega arith) l;
        }

  at_kept : (services : ℕ) → Chained n (k + 1) was (rows_at rows n k services)
  unfolding rows_at
  at_kept services = cases (eqb services 0) (λ u. rw u passed_on) (λ u. rw u (marked_on services (eqb-false services 0 u)))

  pub chained_more : (t : Bool) (services : ℕ) (now : List Row) → now ≡ pick t (rows_at rows n k services) rows → Chained n (k + 1) was now
  chained_more true services now e = subst (λ (x : List Row). Chained n (k + 1) was x) (sym e) (at_kept services)
  chained_more false services now e = subst (λ (x : List Row). Chained n (k + 1) was x) (sym e) passed_on

  -- the services that the rows keep
  pub at_there : (services : ℕ) → col (rows_at rows n k services) k 24 ≡ services
  unfolding rows_at
  at_there services =
      cases (eqb services 0)
      (λ u. rw u (C.left k (omega arith) h ∙ sym (eqb-true services 0 u)))
      (λ u. rw u (marked_there rows (code_in (get_or rows k []) % n) k services hk'))
    where
      hk' : k < length rows
      hk' = omega arith

  pub at_else : (services j : ℕ) → (j ≡ k → ⊥) → col (rows_at rows n k services) j 24 ≡ col rows j 24
  unfolding rows_at
  at_else services j d =
      cases (eqb services 0) (λ u. rw u refl) (λ u. rw u (marked_else rows (code_in (get_or rows k []) % n) k services hk' j d))
    where
      hk' : k < length rows
      hk' = omega arith
