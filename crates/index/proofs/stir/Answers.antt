use mathlib.Core.Path.{refl}
use Rattle.index.specs.Rows.{mix}
use Rattle.index.proofs.stir.Goals as goal

pub returns : goal.returns
unfolding mix
returns c = refl
