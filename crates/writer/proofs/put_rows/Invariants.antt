use Rattle.fields.proofs.FieldLaws.{Left}
use Rattle.writer.proofs.RowLaws.{left, whole}
use Rattle.writer.proofs.put_rows.Given as goal

abbrev pub invariant-loop-i : goal.invariant-loop-i
invariant-loop-i l = Left l.initial.out l.out l.at (left l.text l.table l.count l.i) (whole l.text l.table l.count)
