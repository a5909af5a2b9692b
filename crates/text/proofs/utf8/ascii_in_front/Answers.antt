use borrow.Author.Rules.{rules}
use Rattle.text.proofs.BlockLaws.{none_passed, one_passed}
use Rattle.text.proofs.utf8.ascii_in_front.Goals as goal

pub loop-i-init : goal.loop-i-init
loop-i-init c = search none_passed

pub loop-i-preserved : goal.loop-i-preserved
loop-i-preserved c = search (rules, one_passed)
