use borrow.Author.Rules.{rules}
use native.Mathlib.Omega.{arith}
use Rattle.qsowriter.proofs.TakenLaws.{counting_start, counting_on, counting_end, one_at_most}
use Rattle.qsowriter.proofs.written_count.Goals as goal

pub loop-cell-init : goal.loop-cell-init
loop-cell-init c = (omega arith, search rules, search counting_start)

pub loop-cell-preserved : goal.loop-cell-preserved
loop-cell-preserved c = (omega (arith, one_at_most _ _ c.from-n.ensures), search rules, search counting_on)

pub returns-clause-value : goal.returns-clause-value
returns-clause-value c = search counting_end
