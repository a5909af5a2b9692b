use borrow.Author.Rules.{rules}
use native.Mathlib.Omega.{arith}
use Rattle.merge.proofs.MergeLaws.{measure_start, measure_skip, measure_on, measure_end}
use Rattle.merge.proofs.merged_size.Goals as goal

pub loop-k-init : goal.loop-k-init
loop-k-init c = (omega arith, omega arith, search rules, search measure_start)

pub loop-k-preserved-then-is_dropped : goal.loop-k-preserved-then-is_dropped
loop-k-preserved-then-is_dropped c = (omega arith, omega arith, search rules, search measure_skip)

pub loop-k-preserved : goal.loop-k-preserved
loop-k-preserved c = (omega arith, omega arith, search rules, search measure_on)

pub returns : goal.returns
returns c = search measure_end
