use native.Mathlib.Omega.{arith}
use borrow.Author.Rules.{rules}
use Rattle.entries.proofs.WalkLaws.{size_more, size_other, size_last}
use Rattle.entries.proofs.size_at.Goals as goal

pub loop-i-init : goal.loop-i-init
loop-i-init c = omega arith

pub returns-then-table-i-clause-value : goal.returns-then-table-i-clause-value
returns-then-table-i-clause-value c = search (rules, size_other)

pub loop-i-preserved : goal.loop-i-preserved
loop-i-preserved c = search (rules, size_more)

pub returns-clause-value : goal.returns-clause-value
returns-clause-value c = search (rules, size_last)
