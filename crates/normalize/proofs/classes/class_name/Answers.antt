use Rattle.normalize.specs.Classes.{classes}
use Rattle.normalize.proofs.ClassLaws.{class_spelled}
use mathlib.Core.Path.{refl}
use Rattle.tables.proofs.PlaceLaws.{columns}
use Rattle.normalize.proofs.classes.class_name.Goals as goal

pub name_in-requires : goal.name_in-requires
name_in-requires c = columns _ _ refl tt tt

pub returns : goal.returns
unfolding classes
returns c = class_spelled c.args.class _ _ c.class_number.ensures c.name_in.ensures
