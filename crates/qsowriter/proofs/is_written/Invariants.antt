use mathlib.Core.Path.{◌≡◌}
use lib.ListN.{length}
use Rattle.qsowriter.proofs.TakenLaws.{Looking}
use Rattle.qsowriter.proofs.is_written.Given as goal

abbrev pub invariant-loop-k : goal.invariant-loop-k
invariant-loop-k l = (length l.cell-items ≡ 13) × Looking l.cell-items l.name l.k
