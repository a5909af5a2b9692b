use Rattle.text.proofs.BlockLaws.{all_passed, passed_behind}
use Rattle.text.proofs.utf8.valid_up_to.Goals as goal

pub returns-then-i-s : goal.returns-then-i-s
returns-then-i-s c = search all_passed

pub returns-then-s-lt-SHORT : goal.returns-then-s-lt-SHORT
returns-then-s-lt-SHORT c = search passed_behind
