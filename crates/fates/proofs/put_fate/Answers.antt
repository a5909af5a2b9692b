use Rattle.fates.proofs.StepLaws.{fate_is}
use borrow.Author.Rules.{rules}
use Rattle.fates.proofs.put_fate.Goals as goal

pub returns : goal.returns
returns c = search (rules, fate_is)
