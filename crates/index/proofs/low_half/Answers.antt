use mathlib.Core.Path.{refl}
use Rattle.index.specs.Rows.{low}
use Rattle.index.proofs.low_half.Goals as goal

pub returns : goal.returns
unfolding low
returns c = refl
