-- The bands rise and are disjoint, so at most one holds a frequency, and it is the one that is found. Assumes nothing.
use Rattle.std.specs.Prelude.{Some}
use mathlib.Core.Path.{◌≡◌, refl, ap, ◌∙◌}
use mathlib.Core.Bool.{Bool, true, false}
use mathlib.Core.List.{List, [], ◌∷◌}
use Prim.Native.Nat.{ℕ, zero, suc, ◌+◌, ◌≤◌, ◌<◌}
use native.Mathlib.Nat.{add-zero, add-suc, suc-add}
use native.Mathlib.Omega.{arith}
use lib.Dec.{leb, ltb}
use lib.ListN.{length, get_or, get_or-eq_default}
use borrow.Author.Tests.{leb-true, ltb-true, ltb-false}
use Rattle.text.proofs.BoolLaws.{both_left, both_right}
use Rattle.tables.specs.Table.{first_from}
use Rattle.tables.specs.Bands.{Band, bands, holds, band_for}
use Rattle.tables.proofs.Tested.{all, pairs, all_at, pair_at}

-- the band at k, and past the end of the table one that holds no frequency
abbrev pub no_band : Band
no_band = record { low = 1; high = 0; name = [] }

abbrev pub band_at : ℕ → Band
band_at k = get_or bands k no_band

in_order : all (λ (b : Band). leb b.low b.high) bands ≡ true
unfolding bands
in_order = refl

apart : pairs (λ (b c : Band). ltb b.high c.low) bands ≡ true
unfolding bands
apart = refl

pub low_to_high : (k : ℕ) → k < length bands → (band_at k).low ≤ (band_at k).high
low_to_high k h = leb-true (band_at k).low (band_at k).high (all_at no_band (λ (b : Band). leb b.low b.high) bands in_order k h)

-- a band ends before a later one begins
pub disjoint : (j k : ℕ) → j < k → k < length bands → (band_at j).high < (band_at k).low
disjoint j k l h = ltb-true (band_at j).high (band_at k).low (pair_at no_band (λ (b c : Band). ltb b.high c.low) bands apart j k l h)

-- ---- so at most one band holds a frequency
from_low : (hz : ℕ) (b : Band) → holds hz b ≡ true → b.low ≤ hz
from_low hz b e = leb-true b.low hz (both_left (leb b.low hz) (leb hz b.high) e)

to_high : (hz : ℕ) (b : Band) → holds hz b ≡ true → hz ≤ b.high
to_high hz b e = leb-true hz b.high (both_right (leb b.low hz) (leb hz b.high) e)

in_table : (hz k : ℕ) → holds hz (band_at k) ≡ true → k < length bands
in_table hz k e = by (ltb k (length bands)) refl
  where
    by : (t : Bool) → ltb k (length bands) ≡ t → k < length bands
    by true q = ltb-true k (length bands) q
    by false q =
        let n : band_at k ≡ no_band = get_or-eq_default bands no_band (ltb-false k (length bands) q) in
        let h : holds hz no_band ≡ true = rw n at e in
        absurd (omega (arith, from_low hz no_band h, to_high hz no_band h))

pub one_band : (hz j k : ℕ) → holds hz (band_at j) ≡ true → holds hz (band_at k) ≡ true → j ≡ k
one_band hz j k p q = by (ltb j k) (ltb k j) refl refl
  where
    by : (s t : Bool) → ltb j k ≡ s → ltb k j ≡ t → j ≡ k
    by true t e f =
        absurd
        (omega
        (arith, disjoint j k (ltb-true j k e) (in_table hz k q), to_high hz (band_at j) p, from_low hz (band_at k) q))
    by false true e f =
        absurd
        (omega
        (arith, disjoint k j (ltb-true k j f) (in_table hz j p), to_high hz (band_at k) q, from_low hz (band_at j) p))
    by false false e f = omega (arith, ltb-false j k e, ltb-false k j f)

-- ---- and it is found
first_is : (hz i : ℕ) (xs : List Band) (k : ℕ) → holds hz (get_or xs k no_band) ≡ true → k < length xs
    → (j : ℕ) × ((first_from (holds hz) i xs ≡ Some (i + j)) × (holds hz (get_or xs j no_band) ≡ true))
first_is hz i [] k e h = absurd (omega arith)
first_is hz i (x ∷ xs) k e h = by (holds hz x) refl k e h (λ n p q. first_is hz (suc i) xs n p q)
  where
    by : (t : Bool) → holds hz x ≡ t → (k : ℕ) → holds hz (get_or (x ∷ xs) k no_band) ≡ true → k < suc (length xs)
        → ((n : ℕ) → holds hz (get_or xs n no_band) ≡ true → n < length xs
        → (j : ℕ) × ((first_from (holds hz) (suc i) xs ≡ Some (suc i + j)) × (holds hz (get_or xs j no_band) ≡ true)))
        → (j : ℕ) × ((first_from (holds hz) i (x ∷ xs) ≡ Some (i + j)) × (holds hz (get_or (x ∷ xs) j no_band) ≡ true))
    by true q k e h later = (0, (rw (q, add-zero) refl, q))
    by false q zero e h later = absurd (let z : ◌≡◌ {A = ℕ} 0 1 = cc in omega arith)
    by false q (suc k) e h later =
        let r = later k e (omega arith) in
        (suc r.0, (rw (q, add-suc, ← suc-add) r.1.0, r.1.1))

pub band_found : (hz k : ℕ) → holds hz (band_at k) ≡ true → band_for hz ≡ Some k
unfolding band_for
band_found hz k e =
    let r = first_is hz 0 bands k e (in_table hz k e) in
    r.1.0 ∙ ap (λ (n : ℕ). Some n) (omega (arith, one_band hz r.0 k r.1.1 e))
