-- The walk down the chain of a record's code finds whether a service counted before. Assumes nothing.
use mathlib.Core.Path.{◌≡◌, ap, ◌∙◌}
use mathlib.Core.Bool.{Bool, true, false}
use mathlib.Core.List.{List, []}
use Prim.Native.Nat.{ℕ, ◌-◌, ◌%◌, ◌<◌}
use native.Mathlib.Nat.{mod-lt}
use native.Mathlib.Omega.{arith}
use lib.ListN.{length, get_or}
use Rattle.text.specs.Pick.{both}
use Rattle.text.proofs.BoolLaws.{both_left, both_right}
use Rattle.chain.specs.Chain.{col}
use Rattle.chain.proofs.Walks.{Any, any_start, any_hit, any_on, any_end, next_less}
use Rattle.plan.specs.Confirmed.{has_bit}
use Rattle.entries.specs.Row.{Row}
use Rattle.counted.specs.Counted.{rows_alike, rows_tested, code_in, seen, bucket_of, Marked}
use Rattle.counted.proofs.AlikeLaws.{bit_positive, tested_alike, alike_codes}

module _ (text : List ℕ) (rows : List Row) (k s : ℕ) where
  abbrev pub Hit : ℕ → Bool
  Hit j = both (rows_alike text (get_or rows j []) (get_or rows k [])) (has_bit (col rows j 24) s)

  abbrev pub Tested : ℕ → Bool
  Tested j = both (rows_tested text (get_or rows j []) (get_or rows k [])) (has_bit (col rows j 24) s)

  unfoldable pub Walking : ℕ → ℕ → Type 0
  Walking n at = Any Hit (bucket_of rows n) (code_in (get_or rows k []) % n) k at

  module _ (n : ℕ) (M : Marked text n k rows) where
    hb : code_in (get_or rows k []) % n < n
    hb = mod-lt (code_in (get_or rows k [])) (omega (arith, M.inside))

    sub : (j : ℕ) → j < k → Hit j ≡ true → bucket_of rows n j ≡ code_in (get_or rows k []) % n
    sub j h e =
        let a = alike_codes text (get_or rows j []) (get_or rows k []) (M.coded j (omega (arith, M.inside))) (M.coded k M.inside) (both_left (rows_alike text (get_or rows j []) (get_or rows k [])) _ e) in
        let l = bit_positive (col rows j 24) s (both_right (rows_alike text (get_or rows j []) (get_or rows k [])) _ e) in
        rw l (ap (λ (x : ℕ). x % n) a)

    tested : (j : ℕ) (t : Bool) → j < k → t ≡ Tested j → t ≡ Hit j
    tested j t h e =
        e ∙ ap (λ (x : Bool). both x (has_bit (col rows j 24) s)) (tested_alike text (get_or rows j []) (get_or rows k []) (M.coded j (omega (arith, M.inside))) (M.coded k M.inside))

    pub walk_start : (p at : ℕ) → p ≡ code_in (get_or rows k []) → at ≡ col rows (p % n) 25 → Walking n at
    unfolding Walking
    walk_start p at ep e = any_start (bucket_of rows n) n k (λ b. col rows b 25) (λ j. col rows j 26) M.links (code_in (get_or rows k []) % n) hb Hit sub at (rw ep at e)

    pub walk_in : (at : ℕ) → Walking n at → (at ≡ 0 → ⊥) → at - 1 < length rows
    unfolding Walking
    walk_in at W na = omega (arith, W.within, M.inside, M.room, na)

    pub walk_hit : (at : ℕ) (t : Bool) → Walking n at → (at ≡ 0 → ⊥) → t ≡ Tested (at - 1) → t ≡ true → true ≡ seen text rows k s
    unfolding Walking seen
    walk_hit at t W na et f =
        any_hit (bucket_of rows n) n k (λ b. col rows b 25) (λ j. col rows j 26) M.links (code_in (get_or rows k []) % n) hb Hit sub at t W na (tested (at - 1) t (omega (arith, W.within, na)) et) f

    pub walk_on : (at x : ℕ) (t : Bool) → Walking n at → (at ≡ 0 → ⊥) → t ≡ Tested (at - 1) → t ≡ false → x ≡ col rows (at - 1) 26 → Walking n x
    unfolding Walking
    walk_on at x t W na et f ex =
        any_on (bucket_of rows n) n k (λ b. col rows b 25) (λ j. col rows j 26) M.links (code_in (get_or rows k []) % n) hb Hit sub at x t W na (tested (at - 1) t (omega (arith, W.within, na)) et) f ex

    pub walk_less : (at x : ℕ) → Walking n at → (at ≡ 0 → ⊥) → x ≡ col rows (at - 1) 26 → x < at
    unfolding Walking
    walk_less at x W na ex = next_less (bucket_of rows n) n k (λ b. col rows b 25) (λ j. col rows j 26) M.links (code_in (get_or rows k []) % n) hb Hit sub at x W.within W.chain na ex

    pub walk_end : (at : ℕ) → Walking n at → at ≡ 0 → false ≡ seen text rows k s
    unfolding Walking seen
    walk_end at W e = any_end (bucket_of rows n) n k (λ b. col rows b 25) (λ j. col rows j 26) M.links (code_in (get_or rows k []) % n) hb Hit sub at W e

pub head_in : (text : List ℕ) (rows : List Row) (n k p : ℕ) → Marked text n k rows → p % n < length rows
head_in text rows n k p M = let m : p % n < n = mod-lt p (omega (arith, M.inside)) in omega (arith, M.room)

pub self_in : (text : List ℕ) (rows : List Row) (n k : ℕ) → Marked text n k rows → k < length rows
self_in text rows n k M = omega (arith, M.room, M.inside)
