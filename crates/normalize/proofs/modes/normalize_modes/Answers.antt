use Rattle.normalize.proofs.SplitLaws.{normal_split, normal_joined}
use Rattle.normalize.proofs.modes.normalize_modes.Goals as goal

pub returns-then-is_empty : goal.returns-then-is_empty
returns-then-is_empty c = search normal_split

pub returns : goal.returns
returns c = search normal_joined
