-- The byte order of two texts: by the first byte in which they differ, and the shorter first where there is none.
use Rattle.std.specs.declared.cmp.Ordering.{Ordering}
use Rattle.std.specs.declared.cmp.Ordering.TheVariants.{Less, Equal, Greater}
use Rattle.std.specs.Prelude.{ℕ, List, [], ◌∷◌, ltb}
use Rattle.text.specs.Pick.{pick}
use Rattle.letters.specs.Capitals.{capitals}

abbrev pub order : List ℕ → List ℕ → Ordering
order [] [] = Equal
order [] (y ∷ ys) = Less
order (x ∷ xs) [] = Greater
order (x ∷ xs) (y ∷ ys) = pick (ltb x y) Less (pick (ltb y x) Greater (order xs ys))

unfoldable pub order_raised : List ℕ → List ℕ → Ordering
order_raised xs ys = order (capitals xs) (capitals ys)
