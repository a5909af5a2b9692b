-- Rows put into their chains, and rows that stay out of them. Assumes nothing.
use mathlib.Core.Path.{◌≡◌, refl, sym, ap, ◌∙◌}
use mathlib.Core.List.{List, [], ◌∷◌}
use Prim.Native.Nat.{ℕ, ◌+◌, ◌%◌, ◌≤◌, ◌<◌}
use native.Mathlib.Nat.{mod-lt}
use native.Mathlib.Numerals.{add-one}
use native.Mathlib.Omega.{arith}
use lib.ListN.{length, get_or, set, length-set}
use borrow.Author.Tests.{ne_eqb}
use Rattle.chain.specs.Chain.{col, Pushed}
use Rattle.chain.proofs.Chains.{kept, kept_of_lem, stored, other, linked_more, linked_without, linked_as, linked_by, linked_none}
use Rattle.entries.specs.Row.{Row}
use Rattle.infile.specs.Infile.{code_in, bucket_of, Chained, with_head, with_next, nexted, pushed}

pub push_is : (rows : List Row) (b k was : ℕ) (x y : Row) → was ≡ get_or (get_or rows b []) 2 0 → x ≡ with_next (get_or rows k []) was → y ≡ with_head (get_or (set rows k x) b []) (k + 1) → set (set rows k x) b y ≡ pushed rows b k
unfolding pushed nexted
push_is rows b k was x y e f g = rw (g, f, e, add-one) refl

abbrev hds : List Row → ℕ → ℕ
hds rows b = col rows b 2

abbrev nxs : List Row → ℕ → ℕ
nxs rows j = col rows j 3

-- the numbers that a code is of, and the code
abbrev pub coded_of : Row → List ℕ
coded_of r =
    get_or r 4 0 ∷ get_or r 5 0 ∷ get_or r 6 0 ∷ get_or r 7 0 ∷ get_or r 8 0 ∷ get_or r 9 0 ∷ get_or r 10 0 ∷ get_or r 11 0 ∷ get_or r 12 0 ∷ get_or r 13 0 ∷ []

abbrev wide : List ℕ → Row
wide xs = 0 ∷ 0 ∷ 0 ∷ 0 ∷ xs

code_wide : (text : List ℕ) (r : Row) → code_in text r ≡ code_in text (wide (coded_of r))
unfolding code_in
code_wide text r = refl

code_same : (text : List ℕ) (r s : Row) → coded_of r ≡ coded_of s → code_in text r ≡ code_in text s
code_same text r s e = code_wide text r ∙ ap (λ (x : List ℕ). code_in text (wide x)) e ∙ sym (code_wide text s)

-- ---- the chains of the first k, after stores that leave their fates, all codes and all links
pub chained_by : (text : List ℕ) (n k : ℕ) (rows rows' : List Row) → length rows' ≡ length rows → ((j : ℕ) → j < k → col rows' j 0 ≡ col rows j 0)
    → ((j : ℕ) → coded_of (get_or rows' j []) ≡ coded_of (get_or rows j [])) → ((j : ℕ) → col rows' j 2 ≡ col rows j 2) → ((j : ℕ) → col rows' j 3 ≡ col rows j 3)
    → Chained text n k rows → Chained text n k rows'
chained_by text n k rows rows' el ef ek eh en C =
    let code : (j : ℕ) → col rows' j 4 ≡ col rows j 4 = λ j. ap (λ (x : List ℕ). get_or x 0 0) (ek j) in
    record {
      room = omega (arith, C.room);
      codes = λ j l. code j ∙ C.codes j l ∙ sym (code_same text _ _ (ek j));
      links = linked_by (bucket_of rows' n) n k (hds rows) (nxs rows) (hds rows') (nxs rows') eh en (linked_as (bucket_of rows n) (bucket_of rows' n) n k (hds rows) (nxs rows) (λ j l. rw (ef j l, code j) refl) C.links);
    }

-- ---- no row is in a chain yet
pub chained_none : (text : List ℕ) (n : ℕ) (rows : List Row) → n ≤ length rows → ((j : ℕ) → j < n → col rows j 4 ≡ code_in text (get_or rows j [])) → ((j : ℕ) → j < n → col rows j 2 ≡ 0) → Chained text n 0 rows
chained_none text n rows h c z = record { room = h; codes = c; links = linked_none (bucket_of rows n) n (hds rows) (nxs rows) z }

-- ---- a row is put into a chain
module _ (rows : List Row) (b k : ℕ) where
  pub pushed_length : length (pushed rows b k) ≡ length rows
  unfolding pushed nexted
  pushed_length = simp length-set

  -- what heads and nexts do not touch stays
  pub pushed_kept : {A : Type 0} (f : Row → A) → ((r : Row) (v : ℕ) → f (with_head r v) ≡ f r) → ((r : Row) (v : ℕ) → f (with_next r v) ≡ f r) → (j : ℕ) → f (get_or (pushed rows b k) j []) ≡ f (get_or rows j [])
  unfolding pushed nexted
  pushed_kept f h x j = kept_of_lem f (nexted rows k (col rows b 2)) b _ j (h _ _) ∙ kept_of_lem f rows k _ j (x _ _)

  push_does : b < length rows → k < length rows → Pushed b k (hds rows) (nxs rows) (hds (pushed rows b k)) (nxs (pushed rows b k))
  unfolding pushed nexted
  push_does hb hk =
      let mid : List Row = nexted rows k (col rows b 2) in
      record {
        head_there = stored mid b _ 2 (rw length-set hb);
        head_else = λ j n. other mid b _ 2 j n ∙ kept rows k _ 2 j refl;
        next_there = kept mid b _ 3 k refl ∙ stored rows k _ 3 hk;
        next_else = λ j n. kept mid b _ 3 j refl ∙ other rows k _ 3 j n;
      }

module _ (text : List ℕ) (n k : ℕ) (rows : List Row) (C : Chained text n k rows) (h : k < n) where
  -- an importable row is linked: the chains have one more
  pub linked_one : col rows k 0 ≡ 1 → Chained text n (k + 1) (pushed rows (col rows k 4 % n) k)
  linked_one e =
      let b : bucket_of rows n k ≡ col rows k 4 % n = rw e refl in
      let m : col rows k 4 % n < n = mod-lt (col rows k 4) (omega arith) in
      let r : List Row = pushed rows (col rows k 4 % n) k in
      let coded : (j : ℕ) → coded_of (get_or r j []) ≡ coded_of (get_or rows j []) = pushed_kept rows (col rows k 4 % n) k coded_of (λ x v. refl) (λ x v. refl) in
      let fate : (j : ℕ) → col r j 0 ≡ col rows j 0 = pushed_kept rows (col rows k 4 % n) k (λ (x : Row). get_or x 0 0) (λ x v. refl) (λ x v. refl) in
      let code : (j : ℕ) → col r j 4 ≡ col rows j 4 = λ j. ap (λ (x : List ℕ). get_or x 0 0) (coded j) in
      let P : Pushed (bucket_of rows n k) k (hds rows) (nxs rows) (hds r) (nxs r) = rw b (push_does rows (col rows k 4 % n) k (omega (arith, C.room)) (omega (arith, C.room))) in
      record {
        room = omega (arith, C.room, pushed_length rows (col rows k 4 % n) k);
        codes = λ j l. code j ∙ C.codes j l ∙ sym (code_same text _ _ (coded j));
        links = linked_as (bucket_of rows n) (bucket_of r n) n (k + 1) (hds r) (nxs r) (λ j l. rw (fate j, code j) refl) (linked_more (bucket_of rows n) n k (hds rows) (nxs rows) C.links (hds r) (nxs r) P (rw b m));
      }

  -- a row that is not importable is in none
  pub passed_one : (col rows k 0 ≡ 1 → ⊥) → Chained text n (k + 1) rows
  passed_one e =
      let b : bucket_of rows n k ≡ n = rw (ne_eqb (col rows k 0) 1 e) refl in
      record { room = C.room; codes = C.codes; links = linked_without (bucket_of rows n) n k (hds rows) (nxs rows) C.links (omega arith) }
