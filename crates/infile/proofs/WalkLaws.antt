-- The walk down a chain finds whether an earlier importable record is alike. Assumes nothing.
use Rattle.std.specs.Prelude.{Option}
use mathlib.Core.Path.{◌≡◌, refl, sym, ap, ◌∙◌}
use mathlib.Core.Bool.{Bool, true, false}
use mathlib.Core.List.{List, []}
use Prim.Native.Nat.{ℕ, ◌-◌, ◌%◌, ◌<◌}
use native.Mathlib.Nat.{mod-lt}
use native.Mathlib.Omega.{arith}
use lib.ListN.{length, get_or}
use lib.Dec.{eqb}
use borrow.Author.Tests.{eq-eqb, ne_eqb}
use Rattle.text.specs.Pick.{both}
use Rattle.text.specs.Space.{trimmed}
use Rattle.text.proofs.BoolLaws.{cases, both_left, both_right, both_no, both_yes}
use Rattle.letters.specs.Same.{same, same_raised}
use Rattle.letters.proofs.SameLaws.{same_true, same_raised_true}
use Rattle.tables.specs.Place.{bytes}
use Rattle.dedupe.specs.Keys.{in_file}
use Rattle.dedupe.specs.Views.{keys_in_file}
use Rattle.dedupe.specs.declared.Key.{Key}
use Rattle.chain.specs.Chain.{col}
use Rattle.chain.proofs.Walks.{Any, any_start, any_hit, any_on, any_end, next_less}
use Rattle.index.specs.Rows.{code_of}
use Rattle.search.specs.Search.{near}
use Rattle.entries.specs.Row.{Row, call_in, mode_in, band_in, key_in, moment_in, file_code}
use Rattle.infile.specs.Infile.{alike, repeated_in, code_in, bucket_of, Chained}

-- ---- the tests of two rows
module _ (text : List ℕ) (r s : Row) (limit : ℕ) where
  abbrev Test : Bool
  Test = both (eqb (get_or r 4 0) (get_or s 4 0)) (alike text limit r s)

  pub other_code : (get_or r 4 0 ≡ get_or s 4 0 → ⊥) → false ≡ Test
  other_code n = rw (ne_eqb (get_or r 4 0) (get_or s 4 0) n) refl

  module _ (f : get_or r 4 0 ≡ get_or s 4 0) (x y : Option ℕ) (t : Bool) (ex : x ≡ moment_in r) (ey : y ≡ moment_in s) (et : t ≡ near x y limit) where
    pub other_time : t ≡ false → t ≡ Test
    unfolding alike
    other_time n =
        let u : near (moment_in r) (moment_in s) limit ≡ false = rw (← ex, ← ey, ← et) n in
        n ∙ rw (eq-eqb (get_or r 4 0) (get_or s 4 0) f, u) (sym (both_no (keys_in_file text (key_in r) text (key_in s))))

    pub same_time : t ≡ true → (k o : Key) (v : Bool) → k ≡ key_in r → o ≡ key_in s → v ≡ keys_in_file text k text o → v ≡ Test
    unfolding alike
    same_time n k o v ek eo ev =
        let u : near (moment_in r) (moment_in s) limit ≡ true = rw (← ex, ← ey, ← et) n in
        rw (eq-eqb (get_or r 4 0) (get_or s 4 0) f, u) (ev ∙ rw (ek, eo) refl ∙ sym (both_yes (keys_in_file text (key_in r) text (key_in s))))

-- ---- what is alike has the same code
key_code : (call mode band call' mode' band' : List ℕ) → in_file call mode band call' mode' band' ≡ true → file_code call mode band ≡ file_code call' mode' band'
unfolding in_file file_code code_of
key_code call mode band call' mode' band' k =
    let a = same_raised_true (trimmed call) (trimmed call') (both_left (same_raised (trimmed call) (trimmed call')) _ k) in
    let r = both_right (same_raised (trimmed call) (trimmed call')) _ k in
    let m = same_true (trimmed mode) (trimmed mode') (both_left (same (trimmed mode) (trimmed mode')) _ r) in
    let b = same_true (trimmed band) (trimmed band') (both_right (same (trimmed mode) (trimmed mode')) _ r) in
    rw (a, m, b) refl

alike_code : (text : List ℕ) (limit : ℕ) (r s : Row) → alike text limit r s ≡ true → code_in text r ≡ code_in text s
unfolding alike keys_in_file code_in
alike_code text limit r s e =
    key_code _ _ _ _ _ _ (both_left (in_file (bytes text (call_in r)) (bytes text (mode_in r)) (bytes text (band_in r)) (bytes text (call_in s)) (bytes text (mode_in s)) (bytes text (band_in s))) _ e)

-- ---- the walk
module _ (text : List ℕ) (limit : ℕ) (rows : List Row) (k : ℕ) where
  abbrev pub Hit : ℕ → Bool
  Hit j = both (eqb (col rows j 0) 1) (alike text limit (get_or rows j []) (get_or rows k []))

  unfoldable pub Walking : ℕ → ℕ → Type 0
  Walking n at = Any Hit (bucket_of rows n) (col rows k 4 % n) k at

  module _ (n : ℕ) (C : Chained text n k rows × (k < n)) where
    hb : col rows k 4 % n < n
    hb = mod-lt (col rows k 4) (omega (arith, C.1))

    hit_code : (j : ℕ) → j < k → alike text limit (get_or rows j []) (get_or rows k []) ≡ true → col rows j 4 ≡ col rows k 4
    hit_code j h e = C.0.codes j (omega (arith, C.1)) ∙ alike_code text limit (get_or rows j []) (get_or rows k []) e ∙ sym (C.0.codes k C.1)

    sub : (j : ℕ) → j < k → Hit j ≡ true → bucket_of rows n j ≡ col rows k 4 % n
    sub j h e =
        let f = both_left (eqb (col rows j 0) 1) _ e in
        rw f (ap (λ (x : ℕ). x % n) (hit_code j h (both_right (eqb (col rows j 0) 1) _ e)))

    -- what is in a chain has fate 1
    importable : (j : ℕ) → bucket_of rows n j ≡ col rows k 4 % n → eqb (col rows j 0) 1 ≡ true
    importable j e = cases (eqb (col rows j 0) 1) (λ u. u) (λ u. let z : n ≡ col rows k 4 % n = rw u at e in absurd (omega (arith, hb)))

    tested : (at : ℕ) (t : Bool) → Any Hit (bucket_of rows n) (col rows k 4 % n) k at → (at ≡ 0 → ⊥)
        → t ≡ both (eqb (col rows (at - 1) 4) (col rows k 4)) (alike text limit (get_or rows (at - 1) []) (get_or rows k [])) → t ≡ Hit (at - 1)
    tested at t A na e =
        let f : eqb (col rows (at - 1) 0) 1 ≡ true = importable (at - 1) (A.chain (at - 1) (omega arith)) in
        let l : at - 1 < k = omega (arith, A.within) in
        cases (alike text limit (get_or rows (at - 1) []) (get_or rows k []))
        (λ u. rw (f, e, u, eq-eqb (col rows (at - 1) 4) (col rows k 4) (hit_code (at - 1) l u)) refl)
        (λ u. cases (eqb (col rows (at - 1) 4) (col rows k 4)) (λ v. rw (f, e, u, v) refl) (λ v. rw (f, e, u, v) refl))

    abbrev Was : ℕ → Bool
    Was j = both (eqb (col rows j 4) (col rows k 4)) (alike text limit (get_or rows j []) (get_or rows k []))

    pub walk_start : (p at : ℕ) → p ≡ col rows k 4 → at ≡ col rows (p % n) 2 → Walking n at
    unfolding Walking
    walk_start p at ep e = any_start (bucket_of rows n) n k (λ b. col rows b 2) (λ j. col rows j 3) C.0.links (col rows k 4 % n) hb Hit sub at (rw ep at e)

    pub walk_in : (at : ℕ) → Walking n at → (at ≡ 0 → ⊥) → at - 1 < length rows
    unfolding Walking
    walk_in at W na = omega (arith, W.within, C.1, C.0.room, na)

    pub walk_hit : (at : ℕ) (t : Bool) → Walking n at → (at ≡ 0 → ⊥) → t ≡ Was (at - 1) → t ≡ true → true ≡ repeated_in text limit rows k
    unfolding Walking repeated_in
    walk_hit at t W na et f = any_hit (bucket_of rows n) n k (λ b. col rows b 2) (λ j. col rows j 3) C.0.links (col rows k 4 % n) hb Hit sub at t W na (tested at t W na et) f

    pub walk_on : (at x : ℕ) (t : Bool) → Walking n at → (at ≡ 0 → ⊥) → t ≡ Was (at - 1) → t ≡ false → x ≡ col rows (at - 1) 3 → Walking n x
    unfolding Walking
    walk_on at x t W na et f ex = any_on (bucket_of rows n) n k (λ b. col rows b 2) (λ j. col rows j 3) C.0.links (col rows k 4 % n) hb Hit sub at x t W na (tested at t W na et) f ex

    pub walk_less : (at x : ℕ) → Walking n at → (at ≡ 0 → ⊥) → x ≡ col rows (at - 1) 3 → x < at
    unfolding Walking
    walk_less at x W na ex = next_less (bucket_of rows n) n k (λ b. col rows b 2) (λ j. col rows j 3) C.0.links (col rows k 4 % n) hb Hit sub at x W.within W.chain na ex

    pub walk_end : (at : ℕ) → Walking n at → at ≡ 0 → false ≡ repeated_in text limit rows k
    unfolding Walking repeated_in
    walk_end at W e = any_end (bucket_of rows n) n k (λ b. col rows b 2) (λ j. col rows j 3) C.0.links (col rows k 4 % n) hb Hit sub at W e

-- ---- what is looked at is there
module _ (text : List ℕ) (rows : List Row) (n k : ℕ) (C : Chained text n k rows × (k < n)) where
  pub head_there : (p : ℕ) → p % n < length rows
  head_there p = let m : p % n < n = mod-lt p (omega (arith, C.1)) in omega (arith, C.0.room)

  pub row_there : k < length rows
  row_there = omega (arith, C.1, C.0.room)
