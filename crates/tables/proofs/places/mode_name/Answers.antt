use mathlib.Core.Path.{refl, ◌∙◌}
use Rattle.tables.specs.Modes.{modes, mode_names}
use Rattle.tables.proofs.TableLaws.{name_at_lem}
use Rattle.tables.proofs.PlaceLaws.{columns}
use Rattle.tables.proofs.places.mode_name.Goals as goal

pub name_in-requires : goal.name_in-requires
name_in-requires c = columns _ _ refl tt tt

pub returns : goal.returns
unfolding mode_names modes
returns c = c.name_in.ensures ∙ name_at_lem mode_names _
