use native.Mathlib.Omega.{arith}
use Rattle.writer.proofs.RowLaws.{parts_short, size_end, size_on}
use Rattle.writer.proofs.row_size.Goals as goal

pub field_size-k-requires : goal.field_size-k-requires
field_size-k-requires c = search parts_short

pub returns-then-ends-clause-value : goal.returns-then-ends-clause-value
returns-then-ends-clause-value c = search size_end

pub returns-then-ends-clause-upper_bound : goal.returns-then-ends-clause-upper_bound
returns-then-ends-clause-upper_bound c = omega arith

pub returns-clause-value : goal.returns-clause-value
returns-clause-value c = search size_on

pub returns-clause-upper_bound : goal.returns-clause-upper_bound
returns-clause-upper_bound c = omega arith
