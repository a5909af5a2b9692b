use borrow.Author.Rules.{rules}
use Rattle.wiped.proofs.KeptLaws.{keep_start, keep_on, keep_items}
use Rattle.wiped.proofs.keep_fates.Goals as goal

pub loop-row-init : goal.loop-row-init
loop-row-init c = search (rules, keep_start)

pub loop-row-preserved : goal.loop-row-preserved
loop-row-preserved c = search (rules, keep_on)

pub returns : goal.returns
returns c = search (rules, keep_items)
