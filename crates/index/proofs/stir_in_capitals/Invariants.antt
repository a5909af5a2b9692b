use mathlib.Core.Path.{◌≡◌}
use lib.ListN.{drop}
use Rattle.letters.specs.Capitals.{capitals}
use Rattle.index.specs.Rows.{mixed}
use Rattle.index.proofs.stir_in_capitals.Given as goal

abbrev pub invariant-loop-b : goal.invariant-loop-b
invariant-loop-b l = mixed l.x (drop l.b-index (capitals l.s)) ≡ mixed l.h (capitals l.s)
