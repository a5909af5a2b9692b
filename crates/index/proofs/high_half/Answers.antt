use mathlib.Core.Path.{refl}
use Rattle.index.specs.Rows.{high}
use Rattle.index.proofs.high_half.Goals as goal

pub returns : goal.returns
unfolding high
returns c = refl
