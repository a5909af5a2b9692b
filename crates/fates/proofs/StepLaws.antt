-- One record settled. Assumes nothing.
use mathlib.Core.Path.{◌≡◌, refl, sym, ◌∙◌, subst}
use mathlib.Core.Bool.{Bool, true, false}
use mathlib.Core.List.{List, []}
use Prim.Native.Nat.{ℕ, ◌%◌, ◌≤◌, ◌<◌}
use native.Mathlib.Nat.{mod-lt}
use native.Mathlib.Omega.{arith}
use lib.ListN.{length, get_or, set, drop, length-set}
use lib.Seq.{drop-set-lt}
use lib.Dec.{ltb}
use borrow.Author.Tests.{lt-ltb, le-ltb}
use Rattle.text.specs.Pick.{pick}
use Rattle.chain.specs.Chain.{col}
use Rattle.chain.proofs.Chains.{kept_of_lem, stored, other}
use Rattle.plan.specs.Fates.{fate_of}
use Rattle.entries.specs.Row.{Row}
use Rattle.infile.specs.Infile.{repeated_in, Chained, nexted, pushed}
use Rattle.infile.proofs.LinkLaws.{coded_of, chained_by, linked_one, passed_one, pushed_length, pushed_kept}
use Rattle.fates.specs.Fated.{kept_of}
use Rattle.fates.specs.Steps.{fate_in, with_fate, fated, Step}

-- ---- the fates, one test after the other
module _ (reason : ℕ) (bears matched download repeated : Bool) where
  abbrev Fate : ℕ
  Fate = fate_of reason bears matched download repeated

  pub is_unusable : 0 < reason → 4 ≡ Fate
  unfolding fate_of
  is_unusable h = rw (lt-ltb 0 reason h) refl

  module _ (h : reason ≤ 0) where
    pub is_confirmed : bears ≡ true → matched ≡ true → 5 ≡ Fate
    unfolding fate_of
    is_confirmed b m = rw (le-ltb 0 reason h, b, m) refl

    pub is_unmatched : bears ≡ true → matched ≡ false → 6 ≡ Fate
    unfolding fate_of
    is_unmatched b m = rw (le-ltb 0 reason h, b, m) refl

    module _ (b : bears ≡ false) where
      pub is_ignored : download ≡ true → 7 ≡ Fate
      unfolding fate_of
      is_ignored d = rw (le-ltb 0 reason h, b, d) refl

      module _ (d : download ≡ false) where
        pub is_in_log : matched ≡ true → 2 ≡ Fate
        unfolding fate_of
        is_in_log m = rw (le-ltb 0 reason h, b, d, m) refl

        pub is_in_file : matched ≡ false → repeated ≡ true → 3 ≡ Fate
        unfolding fate_of
        is_in_file m r = rw (le-ltb 0 reason h, b, d, m, r) refl

        pub is_importable : matched ≡ false → repeated ≡ false → 1 ≡ Fate
        unfolding fate_of
        is_importable m r = rw (le-ltb 0 reason h, b, d, m, r) refl

-- ---- whether a record repeats another counts only where the fate would be 1 else
abbrev fate_by : Bool → Bool → Bool → Bool → Bool → ℕ
fate_by unusable bears matched download repeated = pick unusable 4 (pick bears (pick matched 5 6) (pick download 7 (pick matched 2 (pick repeated 3 1))))

none_else : (u b m d r : Bool) → (fate_by u b m d false ≡ 1 → ⊥) → fate_by u b m d false ≡ fate_by u b m d r
none_else true b m d r n = refl
none_else false true m d r n = refl
none_else false false m true r n = refl
none_else false false true false r n = refl
none_else false false false false r n = absurd (n refl)

one_only : (u b m d r : Bool) → fate_by u b m d false ≡ 1 → pick r 3 1 ≡ fate_by u b m d r
one_only true b m d r e = absurd (omega arith)
one_only false true true d r e = absurd (omega arith)
one_only false true false d r e = absurd (omega arith)
one_only false false m true r e = absurd (omega arith)
one_only false false true false r e = absurd (omega arith)
one_only false false false false r e = refl

module _ (reason : ℕ) (bears matched download : Bool) (r : Bool) (fate : ℕ) (e : fate ≡ fate_of reason bears matched download false) where
  settled_already : (fate ≡ 1 → ⊥) → fate ≡ fate_of reason bears matched download r
  unfolding fate_of
  settled_already n = e ∙ none_else (ltb 0 reason) bears matched download r (λ z. n (e ∙ z))

  module _ (f : fate ≡ 1) (t : Bool) (et : t ≡ r) where
    repeats_another : t ≡ true → 3 ≡ fate_of reason bears matched download r
    unfolding fate_of
    repeats_another h = let z : r ≡ true = sym et ∙ h in (rw z refl) ∙ one_only (ltb 0 reason) bears matched download r (sym e ∙ f)

    repeats_none : t ≡ false → 1 ≡ fate_of reason bears matched download r
    unfolding fate_of
    repeats_none h = let z : r ≡ false = sym et ∙ h in (rw z refl) ∙ one_only (ltb 0 reason) bears matched download r (sym e ∙ f)

pub first_is : (row : Row) (download : Bool) (a b d r : ℕ) → a ≡ get_or row 1 0 → b ≡ get_or row 23 0 → d ≡ get_or row 22 0 → r ≡ fate_of a (ltb 0 b) (ltb 0 d) download false
    → r ≡ fate_of (get_or row 1 0) (ltb 0 (get_or row 23 0)) (ltb 0 (get_or row 22 0)) download false
first_is row download a b d r ea eb ed e = e ∙ rw (ea, eb, ed) refl

-- ---- the fate of a row
module _ (text : List ℕ) (limit : ℕ) (download : Bool) (rows : List Row) (k fate : ℕ) (e : fate ≡ fate_of (col rows k 1) (ltb 0 (col rows k 23)) (ltb 0 (col rows k 22)) download false) where
  pub fate_already : (fate ≡ 1 → ⊥) → fate ≡ fate_in text limit download rows k
  unfolding fate_in
  fate_already n = settled_already (col rows k 1) (ltb 0 (col rows k 23)) (ltb 0 (col rows k 22)) download (repeated_in text limit rows k) fate e n

  module _ (f : fate ≡ 1) (t : Bool) (et : t ≡ repeated_in text limit rows k) where
    pub fate_repeated : t ≡ true → 3 ≡ fate_in text limit download rows k
    unfolding fate_in
    fate_repeated h = repeats_another (col rows k 1) (ltb 0 (col rows k 23)) (ltb 0 (col rows k 22)) download (repeated_in text limit rows k) fate e f t et h

    pub fate_new : t ≡ false → 1 ≡ fate_in text limit download rows k
    unfolding fate_in
    fate_new h = repeats_none (col rows k 1) (ltb 0 (col rows k 23)) (ltb 0 (col rows k 22)) download (repeated_in text limit rows k) fate e f t et h

-- ---- a fate is stored
pub fate_is : (rows : List Row) (k fate : ℕ) (x : Row) → x ≡ with_fate (get_or rows k []) fate → set rows k x ≡ fated rows k fate
unfolding fated
fate_is rows k fate x e = rw e refl

module _ (rows : List Row) (k fate : ℕ) where
  fated_length : length (fated rows k fate) ≡ length rows
  unfolding fated
  fated_length = length-set rows k _

  fated_there : k < length rows → col (fated rows k fate) k 0 ≡ fate
  unfolding fated
  fated_there h = stored rows k _ 0 h

  fated_else : (c j : ℕ) → (j ≡ k → ⊥) → col (fated rows k fate) j c ≡ col rows j c
  unfolding fated
  fated_else c j n = other rows k _ c j n

  fated_kept : {A : Type 0} (f : Row → A) → ((r : Row) (x : ℕ) → f (with_fate r x) ≡ f r) → (j : ℕ) → f (get_or (fated rows k fate) j []) ≡ f (get_or rows j [])
  unfolding fated
  fated_kept f e j = kept_of_lem f rows k _ j (e _ _)

  fated_behind : (n : ℕ) → k < n → drop n (fated rows k fate) ≡ drop n rows
  unfolding fated
  fated_behind n h = drop-set-lt n rows k _ h

  fated_chained : (text : List ℕ) (n : ℕ) → Chained text n k rows → Chained text n k (fated rows k fate)
  fated_chained text n C =
      chained_by text n k rows (fated rows k fate) fated_length (λ j l. fated_else 0 j (λ z. omega arith)) (fated_kept coded_of (λ r x. refl)) (fated_kept (λ (r : Row). get_or r 2 0) (λ r x. refl)) (fated_kept (λ (r : Row). get_or r 3 0) (λ r x. refl)) C

pub bucket_in : (text : List ℕ) (n k : ℕ) (rows r : List Row) (fate : ℕ) → Chained text n k rows → k < n → r ≡ fated rows k fate → (p : ℕ) → p % n < length r
bucket_in text n k rows r fate C h er p = let m : p % n < n = mod-lt p (omega arith) in rw er (omega (arith, fated_length rows k fate, C.room))

pushed_behind : (rows : List Row) (n b k : ℕ) → b < n → k < n → drop n (pushed rows b k) ≡ drop n rows
unfolding pushed nexted
pushed_behind rows n b k hb hk = drop-set-lt n _ b _ hb ∙ drop-set-lt n rows k _ hk

-- ---- the two ways that it ends
module _ (text : List ℕ) (limit : ℕ) (download : Bool) (n k : ℕ) (rows : List Row) (C : Chained text n k rows) (h : k < n) (fate : ℕ) (ef : fate ≡ fate_in text limit download rows k) (r : List Row) (er : r ≡ fated rows k fate) where
  inside : k < length rows
  inside = omega (arith, C.room)

  pub step_passed : (fate ≡ 1 → ⊥) → Step text limit download n k rows r
  step_passed d =
      subst (λ (x : List Row). Step text limit download n k rows x) (sym er)
      (record {
        fate = fated_there rows k fate inside ∙ ef;
        fates = fated_else rows k fate 0;
        kept = fated_kept rows k fate kept_of (λ x y. refl);
        lengths = fated_length rows k fate;
        behind = fated_behind rows k fate n h;
        chained = passed_one text n k (fated rows k fate) (fated_chained rows k fate text n C) h (λ z. d (sym (fated_there rows k fate inside) ∙ z));
      })

  pub step_linked : (s : List Row) (p : ℕ) → fate ≡ 1 → p ≡ col r k 4 → s ≡ pushed r (p % n) k → Step text limit download n k rows s
  step_linked s p f ep es =
      let q : List Row = fated rows k fate in
      let b : ℕ = col q k 4 % n in
      let m : col q k 4 % n < n = mod-lt (col q k 4) (omega arith) in
      let z : s ≡ pushed q (col q k 4 % n) k = es ∙ rw (ep, er) refl in
      subst (λ (x : List Row). Step text limit download n k rows x) (sym z)
      (record {
        fate = pushed_kept q b k (λ (x : Row). get_or x 0 0) (λ x v. refl) (λ x v. refl) k ∙ fated_there rows k fate inside ∙ ef;
        fates = λ j d. pushed_kept q b k (λ (x : Row). get_or x 0 0) (λ x v. refl) (λ x v. refl) j ∙ fated_else rows k fate 0 j d;
        kept = λ j. pushed_kept q b k kept_of (λ x v. refl) (λ x v. refl) j ∙ fated_kept rows k fate kept_of (λ x v. refl) j;
        lengths = pushed_length q b k ∙ fated_length rows k fate;
        behind = pushed_behind q n b k m h ∙ fated_behind rows k fate n h;
        chained = linked_one text n k q (fated_chained rows k fate text n C) h (fated_there rows k fate inside ∙ f);
      })
