use Rattle.confirmations.specs.Heard.{heard_of}
use mathlib.Core.Path.{◌≡◌}
use Prim.Native.Nat.{◌+◌, ◌-◌}
use Rattle.writer.specs.Rows.{rows_from}
use Rattle.confirmations.proofs.heard_in.Given as goal

abbrev pub invariant-loop-i : goal.invariant-loop-i
invariant-loop-i l = l.heard ≡ heard_of l.text (rows_from l.table (l.first + l.i) (l.count - l.i))
