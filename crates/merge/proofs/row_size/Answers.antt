use native.Mathlib.Omega.{arith}
use Rattle.writer.proofs.RowLaws.{parts_short}
use Rattle.merge.proofs.RowLaws.{row_long}
use Rattle.merge.proofs.row_size.Goals as goal

pub field_size-requires : goal.field_size-requires
field_size-requires c = search parts_short

pub returns-clause-value : goal.returns-clause-value
returns-clause-value c = search row_long

pub returns-clause-upper_bound : goal.returns-clause-upper_bound
returns-clause-upper_bound c = omega arith
