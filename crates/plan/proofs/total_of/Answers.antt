use borrow.Author.Rules.{rules}
use Rattle.plan.proofs.CountLaws.{sum_none, sum_more, sum_all}
use Rattle.plan.proofs.total_of.Goals as goal

pub loop-fate-init : goal.loop-fate-init
loop-fate-init c = (search rules, search sum_none)

pub loop-fate-preserved : goal.loop-fate-preserved
loop-fate-preserved c = (search rules, search (rules, sum_more))

pub returns : goal.returns
returns c = search (rules, sum_all)
