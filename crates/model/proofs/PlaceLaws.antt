-- What the tests of a place and the bands of a contact make of places. Assumes nothing.
use mathlib.Core.Path.{◌≡◌, refl}
use mathlib.Core.Bool.{Bool, true, false, ◌&&◌}
use mathlib.Core.List.{List, [], ◌∷◌}
use Rattle.std.specs.List.{list_all}
use Prim.Native.Nat.{ℕ}
use Rattle.text.specs.Pick.{both}
use Rattle.tables.specs.declared.Place.{Place}
use Rattle.model.specs.Answer.{is_fit, are_fit}

pub fit_all : (text : List ℕ) (ps : List Place) → list_all (is_fit text) ps ≡ are_fit text ps
fit_all text [] = refl
fit_all text (p ∷ ps) = rw (fit_all text ps) (by (is_fit text p))
  where
    by : (b : Bool) → b && are_fit text ps ≡ both b (are_fit text ps)
    by true = refl
    by false = refl
