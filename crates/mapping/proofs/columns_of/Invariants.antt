use mathlib.Core.Path.{◌≡◌}
use Prim.Native.Nat.{◌+◌, ◌-◌}
use lib.ListN.{length}
use Rattle.writer.specs.Rows.{rows_from}
use Rattle.mapping.specs.Mapping.{columns_of}
use Rattle.mapping.proofs.columns_of.Given as goal

abbrev pub invariant-loop-i : goal.invariant-loop-i
invariant-loop-i l = (length l.columns ≡ 13) × (l.columns ≡ columns_of l.text (rows_from l.table (l.first + l.i) (l.count - l.i)))
