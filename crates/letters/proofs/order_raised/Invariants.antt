use mathlib.Core.Path.{◌≡◌}
use lib.ListN.{drop}
use Rattle.letters.specs.Order.{order_raised}
use Rattle.letters.proofs.order_raised.Given as goal

abbrev pub invariant-loop-i : goal.invariant-loop-i
invariant-loop-i l = order_raised (drop l.i l.a) (drop l.i l.b) ≡ order_raised l.a l.b
