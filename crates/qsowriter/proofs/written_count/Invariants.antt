use mathlib.Core.Path.{◌≡◌}
use Prim.Native.Nat.{◌≤◌}
use lib.ListN.{length}
use Rattle.qsowriter.proofs.TakenLaws.{Counting}
use Rattle.qsowriter.proofs.written_count.Given as goal

abbrev pub invariant-loop-cell : goal.invariant-loop-cell
invariant-loop-cell l = (l.n ≤ l.cell-index) × (length l.cell-items ≡ 13) × Counting l.cell-items l.n l.cell-index
