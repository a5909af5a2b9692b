-- The limits within which nothing is refused that the grammar lets through; and the order of the fields of a record.
use Rattle.std.specs.declared.cmp.Ordering.TheVariants.{Less}
use Rattle.std.specs.Prelude.{◌≡◌, List, [], ◌∷◌, ℕ, ◌≤◌, length}
use Rattle.letters.specs.Order.{order}
use Rattle.adif.specs.Records.{Item, eoh, eor, field, put}

-- no record, and no header, has more than 256 names
abbrev pub Names256 : {F : Type 0} → (F → List ℕ) → List F → List (Item F) → Type 0
Names256 name hand [] = Unit {0}
Names256 name hand (eoh ∷ is) = Names256 name [] is
Names256 name hand (eor ∷ is) = Names256 name [] is
Names256 name hand (field f ∷ is) = (length (put name f hand) ≤ 256) × Names256 name (put name f hand) is

-- in strict byte order of the names, so that each name stands once
abbrev pub Before : {F : Type 0} → (F → List ℕ) → F → List F → Type 0
Before name x [] = Unit {0}
Before name x (y ∷ ys) = order (name x) (name y) ≡ Less

abbrev pub Ascending : {F : Type 0} → (F → List ℕ) → List F → Type 0
Ascending name [] = Unit {0}
Ascending name (x ∷ xs) = Before name x xs × Ascending name xs

abbrev pub AllAscending : {F : Type 0} → (F → List ℕ) → List (List F) → Type 0
AllAscending name [] = Unit {0}
AllAscending name (r ∷ rs) = Ascending name r × AllAscending name rs
