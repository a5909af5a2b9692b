use mathlib.Core.Path.{refl, ◌∙◌}
use Rattle.cells.specs.Cells.{column_order}
use Rattle.tables.proofs.PlaceLaws.{columns}
use Rattle.tables.proofs.TableLaws.{name_at_lem}
use Rattle.cellfields.proofs.NameLaws.{named_at}
use Rattle.cellfields.proofs.column_name.Goals as goal

pub name_in-requires : goal.name_in-requires
name_in-requires c = columns _ _ refl tt tt

pub returns : goal.returns
unfolding column_order
returns c = named_at _ _ (c.name_in.ensures ∙ name_at_lem column_order _)
