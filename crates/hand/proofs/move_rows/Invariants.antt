use lib.Seq.{sets}
use lib.ListN.{take}
use mathlib.Core.Path.{◌≡◌}
use Rattle.hand.specs.Rows.{laid}
use Rattle.hand.proofs.move_rows.Given as goal

abbrev pub invariant-loop-i : goal.invariant-loop-i
invariant-loop-i l = l.table ≡ sets l.initial.table l.at (laid l.record (take l.i l.rows))
