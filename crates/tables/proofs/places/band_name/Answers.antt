use mathlib.Core.Path.{refl, ◌∙◌}
use Rattle.tables.specs.Bands.{bands, band_names}
use Rattle.tables.proofs.TableLaws.{name_at_lem}
use Rattle.tables.proofs.PlaceLaws.{columns}
use Rattle.tables.proofs.places.band_name.Goals as goal

pub name_in-requires : goal.name_in-requires
name_in-requires c = columns _ _ refl tt tt

pub returns : goal.returns
unfolding band_names bands
returns c = c.name_in.ensures ∙ name_at_lem band_names _
