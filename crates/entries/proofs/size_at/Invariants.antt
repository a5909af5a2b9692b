use Prim.Native.Nat.{◌+◌, ◌-◌, ◌/◌}
use mathlib.Core.Path.{◌≡◌}
use lib.ListN.{length}
use Rattle.writer.specs.Rows.{rows_from}
use Rattle.entries.specs.Walked.{size_in}
use Rattle.entries.proofs.size_at.Given as goal

abbrev pub invariant-loop-i : goal.invariant-loop-i
invariant-loop-i l = l.i - l.first + size_in l.number (rows_from l.table l.i (length l.table / 5 - l.i)) ≡ size_in l.number (rows_from l.table l.first (length l.table / 5 - l.first))
