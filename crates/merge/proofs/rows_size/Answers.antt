use native.Mathlib.Omega.{arith}
use Rattle.merge.proofs.RowLaws.{size_on, size_end}
use Rattle.merge.proofs.rows_size.Goals as goal

pub loop-i-preserved : goal.loop-i-preserved
loop-i-preserved c = (omega arith, search size_on)

pub returns-clause-value : goal.returns-clause-value
returns-clause-value c = search size_end

pub returns-clause-upper_bound : goal.returns-clause-upper_bound
returns-clause-upper_bound c = omega arith
