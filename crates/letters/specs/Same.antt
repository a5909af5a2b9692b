-- Whether two texts are the same, as they stand and in capitals.
use Rattle.std.specs.Prelude.{ℕ, Bool, true, false, List, [], ◌∷◌, eqb}
use Rattle.text.specs.Pick.{both}
use Rattle.letters.specs.Capitals.{capitals}

abbrev pub same : List ℕ → List ℕ → Bool
same [] [] = true
same [] (y ∷ ys) = false
same (x ∷ xs) [] = false
same (x ∷ xs) (y ∷ ys) = both (eqb x y) (same xs ys)

unfoldable pub same_raised : List ℕ → List ℕ → Bool
same_raised xs ys = same (capitals xs) (capitals ys)
