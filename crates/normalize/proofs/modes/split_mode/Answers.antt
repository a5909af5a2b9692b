use Rattle.normalize.proofs.SplitLaws.{split_none, split_some}
use Rattle.normalize.proofs.modes.split_mode.Goals as goal

pub returns-then-is_absent : goal.returns-then-is_absent
returns-then-is_absent c = search split_none

pub returns-else-is_absent : goal.returns-else-is_absent
returns-else-is_absent c = search split_some
