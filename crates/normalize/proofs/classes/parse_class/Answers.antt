use Rattle.tables.specs.Table.{cut}
use Rattle.normalize.specs.Classes.{classes}
use Rattle.normalize.proofs.ClassLaws.{class_named_lem, class_unnamed}
use mathlib.Core.Path.{refl, ◌∙◌}
use Rattle.tables.proofs.PlaceLaws.{columns}
use Rattle.normalize.proofs.classes.parse_class.Goals as goal

pub named_in-requires : goal.named_in-requires
named_in-requires c = columns _ _ refl tt tt

pub returns-in_err-k : goal.returns-in_err-k
unfolding classes cut
returns-in_err-k c = c.from_residual.ensures ∙ class_unnamed _ _ _ c.trim.ensures c.named_in.ensures c.in_err-k.was

pub returns : goal.returns
unfolding classes cut
returns c = class_named_lem _ _ _ c.trim.ensures c.named_in.ensures _ _ c.in_ok-k.was c.class_numbered.ensures
