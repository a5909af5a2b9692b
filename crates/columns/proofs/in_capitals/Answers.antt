use native.Mathlib.Omega.{arith}
use borrow.Author.Rules.{rules}
use Rattle.columns.proofs.ColumnLaws.{raised_next}
use Rattle.columns.proofs.in_capitals.Goals as goal

pub loop-i-preserved : goal.loop-i-preserved
loop-i-preserved c = (search rules, raised_next _ _ _ _ (search rules) (omega (arith, c.loop-i.invariant.0, c.requires)) c.loop-i.invariant.1 c.raise.ensures)
