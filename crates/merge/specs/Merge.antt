-- Two lists of fields in one.
use Rattle.std.specs.Prelude.{ℕ, List, [], ◌∷◌, ◌++◌}
use Rattle.text.specs.Pick.{pick}
use Rattle.letters.specs.Same.{same}
use Rattle.letters.specs.Order.{order}
use Rattle.rowcheck.specs.Check.{is_less}
use Rattle.adif.specs.Grammar.{Field}

-- of fields whose names rise: those below a name, and those above it
abbrev pub below : List ℕ → List Field → List Field
below name [] = []
below name (f ∷ fs) = pick (is_less (order f.name name)) (f ∷ below name fs) []

abbrev pub above : List ℕ → List Field → List Field
above name [] = []
above name (f ∷ fs) = pick (is_less (order f.name name)) (above name fs) (pick (same f.name name) fs (f ∷ fs))

-- two lists of fields in one, in byte order of the names; of two fields of one name that of the first list stands
abbrev pub merged : List Field → List Field → List Field
merged [] es = es
merged (f ∷ fs) es = below f.name es ++ (f ∷ merged fs (above f.name es))
