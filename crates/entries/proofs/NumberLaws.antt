-- A row with another number in a column: what a store makes of it. Assumes nothing.
use mathlib.Core.Path.{◌≡◌, refl, sym, ap, ◌∙◌}
use mathlib.Core.List.{List, [], ◌∷◌}
use Prim.Native.Nat.{ℕ, zero, suc}
use lib.ListN.{length, get_or, set}
use Rattle.entries.specs.Row.{Row, numbers_from, with_number}

-- behind a first number all stand one further
numbers_on : (x : ℕ) (xs : List ℕ) (i n : ℕ) → numbers_from (x ∷ xs) (suc i) n ≡ numbers_from xs i n
numbers_on x xs i zero = refl
numbers_on x xs i (suc n) = ap (λ (l : List ℕ). get_or xs i 0 ∷ l) (numbers_on x xs (suc i) n)

numbers_all : (xs : List ℕ) → numbers_from xs 0 (length xs) ≡ xs
numbers_all [] = refl
numbers_all (x ∷ xs) = ap (λ (l : List ℕ). x ∷ l) (numbers_on x xs 0 (length xs) ∙ numbers_all xs)

pub stored_is : (row x : Row) (column value : ℕ) → length row ≡ 28 → x ≡ set row column value → x ≡ with_number row column value
stored_is row x column value e h =
    h ∙ ap (λ (l : List ℕ). set l column value) (sym (numbers_all row) ∙ ap (λ (n : ℕ). numbers_from row 0 n) e)

-- one number after another
pub both_are : (row x y : Row) (column value other next : ℕ) → x ≡ with_number row column value → y ≡ with_number x other next
    → y ≡ with_number (with_number row column value) other next
both_are row x y column value other next e f = f ∙ ap (λ (l : Row). with_number l other next) e
