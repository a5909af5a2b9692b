use Rattle.std.specs.Prelude.{Option, ℕ}
use mathlib.Core.Path.{ap, ◌∙◌}
use Rattle.tables.specs.Bands.{bands, band_for}
use Rattle.tables.specs.Place.{band_place}
use Rattle.bands.proofs.band_for_freq_hz.Goals as goal

pub returns : goal.returns
unfolding band_for bands
returns c = c.entry_of.ensures ∙ ap (λ (f : Option ℕ). band_place f) c.band_in.ensures
