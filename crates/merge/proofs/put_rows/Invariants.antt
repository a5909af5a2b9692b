use Rattle.fields.specs.Written.{fields_text}
use Rattle.merge.specs.Steps.{fields_between}
use Rattle.merge.proofs.RowLaws.{Rest}
use Rattle.merge.proofs.put_rows.Given as goal

abbrev pub invariant-loop-i : goal.invariant-loop-i
invariant-loop-i l = Rest l.initial.out l.out l.at l.to (fields_text (fields_between l.text l.table l.i l.end)) (fields_text (fields_between l.text l.table l.first l.end))
