use mathlib.Core.Path.{refl}
use borrow.Author.Rules.{rules}
use Rattle.fates.proofs.SettleLaws.{done_none, done_more, done_all, done_kept}
use Rattle.fates.proofs.settle.Goals as goal

pub loop-k-init : goal.loop-k-init
loop-k-init c = (refl, search done_none)

pub settle_one-requires : goal.settle_one-requires
settle_one-requires c = (c.loop-k.invariant.1.chained, c.loop-k-test.true, search rules)

pub loop-k-preserved : goal.loop-k-preserved
loop-k-preserved c = (search rules, search done_more)

pub returns-clause-fated : goal.returns-clause-fated
returns-clause-fated c = search done_all

pub returns-clause-kept : goal.returns-clause-kept
returns-clause-kept c = search done_kept
