use mathlib.Core.Path.{◌≡◌}
use Prim.Native.Nat.{◌+◌, ◌-◌}
use Rattle.writer.specs.Rows.{rows_from}
use Rattle.mapping.specs.Mapping.{goes_on, is_record}
use Rattle.mapping.proofs.is_record.Given as goal

abbrev pub invariant-loop-i : goal.invariant-loop-i
invariant-loop-i l = goes_on l.text l.p (rows_from l.table (l.first + l.i) (l.count - l.i)) ≡ is_record l.text (rows_from l.table l.first l.count)
