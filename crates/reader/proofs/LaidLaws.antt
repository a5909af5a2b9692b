-- The rows of records as they lie in a table, and the zeros behind them. Assumes nothing.
use mathlib.Core.Path.{◌≡◌, refl, sym, ap, ◌∙◌}
use mathlib.Core.List.{List, [], ◌∷◌, ◌++◌, append_assoc, append-nil}
use Prim.Native.Nat.{ℕ, suc, ◌+◌, ◌*◌, ◌-◌, ◌≤◌}
use native.Mathlib.Nat.{add-zero}
use native.Mathlib.Omega.{arith}
use lib.ListN.{length, take, drop, set, length-append, length-replicate, replicate-append-replicate, drop_of_length-le}
use lib.Seq.{sets, length-sets, sets-eq, take_at}
use Rattle.adif.specs.Records.{total}
use Rattle.adif.specs.Reading.{Row}
use Rattle.hand.specs.Rows.{laid}
use Rattle.text.proofs.StoreLaws.{sets_append}
use Rattle.hand.proofs.TableLaws.{laid_length}
use Rattle.reader.specs.Table.{laid_from, zeros}

pub laid_from-length : (n : ℕ) (rs : List (List Row)) → length (laid_from n rs) ≡ 5 * total rs
laid_from-length n [] = refl
laid_from-length n (r ∷ rs) = omega (arith, length-append (laid n r) (laid_from (suc n) rs), laid_length n r, laid_from-length (suc n) rs)

laid_from-snoc : (n : ℕ) (rs : List (List Row)) (r : List Row) → laid_from n (rs ++ (r ∷ [])) ≡ laid_from n rs ++ laid (n + length rs) r
laid_from-snoc n [] r = rw add-zero (append-nil (laid n r))
laid_from-snoc n (x ∷ rs) r =
    let e : suc n + length rs ≡ n + suc (length rs) = omega arith in
    rw (laid_from-snoc (suc n) rs r, append_assoc, e)

pub total_snoc : (rs : List (List Row)) (r : List Row) → total (rs ++ (r ∷ [])) ≡ total rs + length r
total_snoc [] r = omega arith
total_snoc (x ∷ rs) r = omega (arith, total_snoc rs r)

-- the next record is laid behind the others
pub laid_next : (was : List ℕ) (rs : List (List Row)) (r : List Row) (used count : ℕ) → used ≡ total rs → count ≡ length rs
    → sets (sets was 0 (laid_from 1 rs)) (used * 5) (laid (count + 1) r) ≡ sets was 0 (laid_from 1 (rs ++ (r ∷ [])))
laid_next was rs r used count u c =
    let p : used * 5 ≡ 0 + length (laid_from 1 rs) = omega (arith, laid_from-length 1 rs) in
    let q : count + 1 ≡ 1 + length rs = omega arith in
    rw (p, q, laid_from-snoc 1 rs r, sets_append)

-- what was stored at the front stands there
pub front : (was xs table : List ℕ) → table ≡ sets was 0 xs → length xs ≤ length table → take (length xs) table ≡ xs
front was xs table e h =
    let l : length table ≡ length was = ap length e ∙ length-sets was 0 xs in
    let k : 0 + length xs ≤ length was = omega arith in
    rw (e, sets-eq xs was 0 k, take_at xs (drop (0 + length xs) was) (length xs) refl)

-- zero from `from` on, one number after the other
zeros_more : (k : ℕ) → zeros (k + 1) ≡ zeros k ++ (0 ∷ [])
zeros_more k = sym (replicate-append-replicate k 1 0)

pub cleared_none : (was : List ℕ) (from : ℕ) → was ≡ sets was from (zeros (from - from))
cleared_none was from =
    let z : from - from ≡ 0 = omega arith in
    rw z refl

pub cleared_more : (was table : List ℕ) (from i : ℕ) → from ≤ i → table ≡ sets was from (zeros (i - from)) → set table i 0 ≡ sets was from (zeros (i + 1 - from))
cleared_more was table from i h e =
    let k : i + 1 - from ≡ i - from + 1 = omega arith in
    let j : from + length (zeros (i - from)) ≡ i = omega (arith, length-replicate {A = ℕ} (i - from) 0) in
    rw (k, zeros_more (i - from), sets_append was from (zeros (i - from)) (0 ∷ []), j, e)

pub cleared : (was table : List ℕ) (from i : ℕ) → from ≤ length was → i ≤ length was → length table ≡ length was → length table ≤ i → table ≡ sets was from (zeros (i - from))
    → table ≡ take from was ++ zeros (length was - from)
cleared was table from i f h l g e =
    let k : i ≡ length was = omega arith in
    let z : List ℕ = zeros (length was - from) in
    let j : from + length z ≡ length was = omega (arith, length-replicate {A = ℕ} (length was - from) 0) in
    let d : drop (from + length z) was ≡ [] = drop_of_length-le was {i = from + length z} (omega arith) in
    e ∙ rw k (sets-eq z was from (omega arith) ∙ ap (λ (l : List ℕ). take from was ++ z ++ l) d ∙ append-nil (take from was ++ z))
