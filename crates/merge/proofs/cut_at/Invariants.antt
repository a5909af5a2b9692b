use mathlib.Core.Path.{◌≡◌}
use Rattle.cellfields.specs.Fields.{name_at}
use Rattle.merge.proofs.RowLaws.{Cutting}
use Rattle.merge.proofs.cut_at.Given as goal

abbrev pub invariant-loop-i : goal.invariant-loop-i
invariant-loop-i l = (l.name ≡ name_at l.k) × Cutting l.text l.table l.first l.count l.k l.i
