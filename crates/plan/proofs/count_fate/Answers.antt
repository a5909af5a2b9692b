use borrow.Author.Rules.{rules}
use Rattle.plan.proofs.CountLaws.{none_yet, count_on, count_end}
use Rattle.plan.proofs.count_fate.Goals as goal

pub loop-row-init : goal.loop-row-init
loop-row-init c = (search rules, search none_yet)

pub loop-row-preserved : goal.loop-row-preserved
loop-row-preserved c = (search rules, search (rules, count_on))

pub returns-clause-value : goal.returns-clause-value
returns-clause-value c = search (rules, count_end)
