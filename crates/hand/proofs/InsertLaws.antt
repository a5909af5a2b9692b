-- An insert into sorted rows, as the code makes it: the place is looked for row by row, and the rows behind it are moved up one by one.
-- Assumes nothing.
use Rattle.std.specs.Prelude.{Some, None, Ok, Err}
use Rattle.std.specs.declared.cmp.Ordering.{Ordering}
use Rattle.std.specs.declared.cmp.Ordering.TheVariants.{Less, Equal, Greater}
use mathlib.Core.Path.{◌≡◌, refl, sym, ◌∙◌, ap}
use mathlib.Core.Bool.{Bool, true, false}
use mathlib.Core.List.{List, [], ◌∷◌, ◌++◌, append_assoc}
use Prim.Native.Nat.{ℕ, zero, suc, ◌+◌, ◌-◌, ◌≤◌, ◌<◌}
use native.Mathlib.Omega.{arith}
use native.Mathlib.Numerals.{add-one}
use lib.Dec.{leb}
use lib.ListN.{length, get_or, take, drop, set, length-take, length-drop, length-append, drop_of_length-le, length-set}
use lib.Seq.{take_at, drop-cons, append_snoc, take-set-lt, length-take-le, take-suc, set_split}
use borrow.Author.Tests.{le-leb, lt-leb, leb-true}
use Rattle.text.specs.Pick.{pick}
use Rattle.letters.specs.Capitals.{raised, capitals}
use Rattle.letters.specs.Order.{order, order_raised}
use Rattle.adif.specs.Records.{placed, put}
use Rattle.adif.specs.Reading.{Row, part, row_name}
use Rattle.hand.specs.Rows.{put_in, put_for, Placed, Inserted}
use Rattle.hand.proofs.PartLaws.{first_decides}
use Rattle.std.specs.List.{copy_within}

-- the rows from `at` on move up by one, and the row goes to `at`
shift_at : (at k n : ℕ) (r : Row) (xs : List Row) → n ≡ at + k → n < length xs
    → take (suc n) (set (take (suc at) xs ++ (take k (drop at xs) ++ drop (suc n) xs)) at r) ≡ put_in at r (take n xs)
shift_at at k n r [] e h = absurd (omega arith)
shift_at zero k n r (x ∷ xs) e h =
    let i : n ≡ k = omega arith in
    ap (λ (l : List Row). r ∷ l) (rw i (take_at (take k (x ∷ xs)) (drop k xs) k (length-take-le k (x ∷ xs) (omega arith))))
shift_at (suc at) k zero r (x ∷ xs) e h = absurd (omega arith)
shift_at (suc at) k (suc n) r (x ∷ xs) e h = ap (λ (l : List Row). x ∷ l) (shift_at at k n r xs (omega arith) (omega arith))

pub shift_in : (rows : List Row) (used at : ℕ) (r : Row) → at ≤ used → used < length rows
    → take (used + 1) (set (copy_within rows at used (at + 1)) at r) ≡ put_in at r (take used rows)
shift_in rows used at r h l =
    let i : at + 1 ≡ suc at = omega arith in
    let k : suc at + (used - at) ≡ suc used = omega arith in
    rw (i, k, add-one, append_assoc) (shift_at at (used - at) used r rows (omega arith) l)

-- the walk for a row's place: the row at i, by how the name stands to its name
module _ (text : List ℕ) (xs : List Row) (i : ℕ) (h : i < length xs) (r : Row) where
  met_at : put (row_name text) r (drop i xs)
      ≡ placed (order (row_name text r) (row_name text (get_or xs i []))) r (get_or xs i []) (drop (suc i) xs) (put (row_name text) r (drop (suc i) xs))
  met_at = rw (drop-cons xs i [] h)

  met_above : order (row_name text r) (row_name text (get_or xs i [])) ≡ Greater
      → take i xs ++ put (row_name text) r (drop i xs) ≡ take (i + 1) xs ++ put (row_name text) r (drop (i + 1) xs)
  met_above a = rw (met_at, add-one, take-suc xs i [] h, append_snoc, a)

  met_below : order (row_name text r) (row_name text (get_or xs i [])) ≡ Less → take i xs ++ put (row_name text) r (drop i xs) ≡ put_in i r xs
  met_below e = rw (met_at, e, drop-cons xs i [] h)

  met_same : order (row_name text r) (row_name text (get_or xs i [])) ≡ Equal → take i xs ++ put (row_name text) r (drop i xs) ≡ put_for i r xs
  met_same e = rw (met_at, e)

-- a row of the name goes past the first i rows
unfoldable pub Passed : List ℕ → List ℕ → List Row → ℕ → Type 0
Passed text name xs i = (r : Row) → row_name text r ≡ name → put (row_name text) r xs ≡ take i xs ++ put (row_name text) r (drop i xs)

pub none_passed : (text name : List ℕ) (xs : List Row) → Passed text name xs 0
unfolding Passed
none_passed text name xs r e = refl

-- the test at row i: o says how the name n stands to that row's
module _ (text : List ℕ) (rows : List Row) (i : ℕ) (n : List ℕ) (inside : i < length rows) (inv : Passed text (capitals n) rows i) where
  abbrev o : Ordering
  o = order_raised n (part text (get_or (get_or rows i []) 0 0) (get_or (get_or rows i []) 1 0))

  order_is : (r : Row) → row_name text r ≡ capitals n → order (row_name text r) (row_name text (get_or rows i [])) ≡ o
  unfolding order_raised row_name
  order_is r er = rw er refl

  pub found_below : Less ≡ o → Placed text rows (capitals n) (Err i)
  unfolding Passed Placed
  found_below z = (omega (arith, inside), λ r er. inv r er ∙ met_below text rows i inside r (order_is r er ∙ sym z))

  pub found_same : Equal ≡ o → Placed text rows (capitals n) (Ok i)
  unfolding Passed Placed
  found_same z = (inside, λ r er. inv r er ∙ met_same text rows i inside r (order_is r er ∙ sym z))

  pub found_above : Greater ≡ o → Passed text (capitals n) rows (i + 1)
  unfolding Passed
  found_above a r er = inv r er ∙ met_above text rows i inside r (order_is r er ∙ sym a)

  -- the test of the first bytes, which passes a row where the name's is above
  pub found_later : raised (get_or text (get_or (get_or rows i []) 0 0) 0) < raised (get_or n 0 0) → Passed text (capitals n) rows (i + 1)
  found_later h = found_above (first_decides text n (get_or (get_or rows i []) 0 0) (get_or (get_or rows i []) 1 0) h)

pub found_end : (text : List ℕ) (rows : List Row) (n : List ℕ) → Passed text (capitals n) rows (length rows) → Placed text rows (capitals n) (Err (length rows))
unfolding Passed Placed
found_end text rows n inv = (omega arith, λ r er. inv r er ∙ rw (drop_of_length-le rows {i = length rows} (omega arith)) refl)

fits_in : (n : ℕ) (w l : List Row) → length w ≡ n → n ≤ length l → take n l ≡ w → Inserted (Some n) w l
fits_in n w l e h t = record { kept = rw (e, le-leb n (length l) h); moved = λ _. rw e t }

length-put_in : (at : ℕ) (r : Row) (xs : List Row) → at ≤ length xs → length (put_in at r xs) ≡ length xs + 1
length-put_in at r xs h = simp (length-append, length-take, length-drop) (omega arith)

-- the three answers of an insert
module _ (text : List ℕ) (rows : List Row) (used : ℕ) (r : Row) (name : List ℕ) (en : name ≡ part text (get_or r 0 0) (get_or r 1 0)) (ul : used ≤ length rows) where
  len : length (take used rows) ≡ used
  len = length-take-le used rows ul

  module _ (at : ℕ) (found : Placed text (take used rows) (capitals name) (Ok at)) where
    there : (at < length (take used rows)) × (put (row_name text) r (take used rows) ≡ put_for at r (take used rows))
    unfolding Placed row_name
    there = (found.0, found.1 r (rw en refl))

    pub below_rows : at < length rows
    below_rows = omega (arith, there.0, len)

    pub replaced : Inserted (Some used) (put (row_name text) r (take used rows)) (set rows at r)
    replaced =
        let h : at < length (take used rows) = there.0 in
        let e : put (row_name text) r (take used rows) ≡ set (take used rows) at r = there.1 ∙ sym (set_split (take used rows) at r h) in
        fits_in used _ _ (ap length e ∙ length-set (take used rows) at r ∙ len) (rw length-set ul) (take-set-lt used rows at r (omega (arith, len)) ∙ sym e)

  module _ (at : ℕ) (found : Placed text (take used rows) (capitals name) (Err at)) where
    between : (at ≤ length (take used rows)) × (put (row_name text) r (take used rows) ≡ put_in at r (take used rows))
    unfolding Placed row_name
    between = (found.0, found.1 r (rw en refl))

    pub within_used : at ≤ used
    within_used = omega (arith, between.0, len)

    grown : length (put (row_name text) r (take used rows)) ≡ used + 1
    grown = ap length between.1 ∙ length-put_in at r (take used rows) between.0 ∙ ap (λ (n : ℕ). n + 1) len

    pub full : used ≡ length rows → Inserted None (put (row_name text) r (take used rows)) rows
    full e = record { kept = rw (grown, lt-leb (used + 1) (length rows) (omega arith)); moved = λ h. absurd (omega (arith, grown)) }

    pub shifted : (used ≡ length rows → ⊥) → (moved : List Row) → moved ≡ copy_within rows at used (at + 1) → length moved ≡ length rows
        → Inserted (Some (used + 1)) (put (row_name text) r (take used rows)) (set moved at r)
    shifted differ moved em el =
        let h : used < length rows = omega (arith, differ) in
        fits_in (used + 1) _ _ grown (rw length-set (omega arith)) (rw em (shift_in rows used at r within_used h) ∙ sym between.1)

-- what an answer of the insert says
kept_used : (b : Bool) (m n : ℕ) → Some n ≡ pick b (Some m) None → (b ≡ true) × (n ≡ m)
kept_used true m n e = (refl, cc)
kept_used false m n e = let z : ◌≡◌ {A = ℕ} 0 1 = cc in absurd (omega arith)

kept_full : (b : Bool) (m : ℕ) → None ≡ pick b (Some m) None → b ≡ false
kept_full true m e = let z : ◌≡◌ {A = ℕ} 0 1 = cc in absurd (omega arith)
kept_full false m e = refl

pub used_is : (n : ℕ) (want rows : List Row) → Inserted (Some n) want rows → (n ≡ length want) × (length want ≤ length rows) × (take n rows ≡ want)
used_is n want rows I =
    let k : (leb (length want) (length rows) ≡ true) × (n ≡ length want) = kept_used (leb (length want) (length rows)) (length want) n I.kept in
    let h : length want ≤ length rows = leb-true _ _ k.0 in
    (k.1, h, rw k.1 (I.moved h))

pub full_is : (want rows : List Row) → Inserted None want rows → leb (length want) (length rows) ≡ false
full_is want rows I = kept_full (leb (length want) (length rows)) (length want) I.kept
