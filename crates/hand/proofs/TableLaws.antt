-- Rows laid into a table, one after the other. Assumes nothing.
use mathlib.Core.Path.{◌≡◌, refl, sym, ◌∙◌}
use mathlib.Core.List.{List, [], ◌∷◌, ◌++◌, append_assoc}
use Prim.Native.Nat.{ℕ, ◌+◌, ◌-◌, ◌*◌, ◌≤◌, ◌<◌}
use native.Mathlib.Omega.{arith}
use native.Mathlib.Numerals.{add-one}
use lib.ListN.{length, get_or, take}
use borrow.Rule.Slice.PartMut.{put_mid}
use lib.Seq.{sets-eq, get_or-take, length-take-le, take-suc, sets}
use Rattle.text.proofs.StoreLaws.{sets_append}
use Rattle.std.proofs.lemmas.List.{drop-drop}
use Rattle.adif.specs.Reading.{Row}
use Rattle.hand.specs.Rows.{numbered, laid}

laid_append : (n : ℕ) (xs ys : List Row) → laid n (xs ++ ys) ≡ laid n xs ++ laid n ys
laid_append n [] ys = refl
laid_append n (x ∷ xs) ys = rw (laid_append n xs ys, append_assoc)

pub laid_length : (n : ℕ) (rows : List Row) → length (laid n rows) ≡ 5 * length rows
laid_length n [] = refl
laid_length n (r ∷ rows) = omega (arith, laid_length n rows)

-- one row more
laid_more : (n : ℕ) (rows : List Row) (i : ℕ) → i < length rows → laid n (take (i + 1) rows) ≡ laid n (take i rows) ++ numbered n (get_or rows i [])
laid_more n rows i h = rw (add-one, take-suc rows i [] h, laid_append n (take i rows) (get_or rows i [] ∷ []))

put_is : (v table : List ℕ) (to : ℕ) → to + length v ≤ length table → put_mid to (length v) table v ≡ sets table to v
put_is v table to f = rw (drop-drop (length v) to table) (sym (sets-eq v table to f ∙ append_assoc (take to table) v _))

pub stored_more : (n : ℕ) (rows : List Row) (used i at to : ℕ) (table table₀ row : List ℕ) → i < length (take used rows) → used ≤ length rows → at + 5 * used ≤ length table
    → to ≡ at + 5 * i → table ≡ sets table₀ at (laid n (take i rows)) → row ≡ numbered n (get_or (take used rows) i [])
    → put_mid to (to + 5 - to) table row ≡ sets table₀ at (laid n (take (i + 1) rows))
stored_more n rows used i at to table table₀ row h k f et e er =
    let j : i < used = omega (arith, length-take-le used rows k) in
    let l : to ≡ at + length (laid n (take i rows)) = omega (arith, laid_length n (take i rows), length-take-le i rows (omega arith)) in
    let five : to + 5 - to ≡ 5 = omega arith in
    rw (er, get_or-take used rows i [] j, five, put_is (numbered n (get_or rows i [])) table to (omega arith), laid_more n rows i (omega arith), sets_append, ← l, ← e)
