use Rattle.normalize.proofs.SplitLaws.{parent_of_key_lem}
use Rattle.normalize.proofs.modes.parent_of_submode.Goals as goal

pub returns : goal.returns
returns c = search parent_of_key_lem
