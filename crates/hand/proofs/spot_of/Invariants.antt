use Rattle.hand.proofs.InsertLaws.{Passed}
use Rattle.letters.specs.Capitals.{raised, capitals}
use mathlib.Core.Path.{◌≡◌}
use lib.ListN.{get_or}
use Rattle.hand.proofs.spot_of.Given as goal

abbrev pub invariant-loop-i : goal.invariant-loop-i
invariant-loop-i l = (l.first ≡ raised (get_or l.name 0 0)) × Passed l.text (capitals l.name) l.rows l.i
