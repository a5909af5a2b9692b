use mathlib.Core.Path.{refl}
use Rattle.tables.specs.Bands.{bands, every_band}
use Rattle.bands.proofs.known_bands.Goals as goal

pub returns : goal.returns
unfolding every_band bands
returns c = refl
