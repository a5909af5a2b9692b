use mathlib.Core.Path.{◌≡◌}
use lib.ListN.{length, take}
use Rattle.letters.specs.Capitals.{capitals}
use Rattle.columns.proofs.in_capitals.Given as goal

abbrev pub invariant-loop-i : goal.invariant-loop-i
invariant-loop-i l = (length l.bytes ≡ 10) × (take l.i l.bytes ≡ capitals (take l.i l.name))
