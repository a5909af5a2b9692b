-- Worked examples.
use Rattle.std.specs.Prelude.{◌≡◌, refl, [], ◌∷◌, ℕ}
use Rattle.adif.specs.Grammar.{Field}
use Rattle.trip.specs.File.{gathered}

-- a field named n with the value v
abbrev one : ℕ → ℕ → Field
one n v = record { name = n ∷ []; value = v ∷ [] }

-- names that rise stay as they are; else they are put in order, and a later field of the same name wins
rising : gathered [] (one 65 1 ∷ one 66 2 ∷ []) ≡ one 65 1 ∷ one 66 2 ∷ []
rising = refl

falling : gathered [] (one 66 2 ∷ one 65 1 ∷ one 66 3 ∷ []) ≡ one 65 1 ∷ one 66 3 ∷ []
falling = refl
