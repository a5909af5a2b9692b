use Rattle.tables.specs.Table.{cut}
use Rattle.tables.specs.Modes.{modes, mode_names}
use Rattle.normalize.proofs.ClassLaws.{class_found, class_unfound}
use mathlib.Core.Path.{refl, ◌∙◌}
use Rattle.tables.proofs.PlaceLaws.{columns}
use Rattle.normalize.proofs.classes.mode_class.Goals as goal

pub named_in-requires : goal.named_in-requires
named_in-requires c = columns _ _ refl tt tt

pub returns-in_err-k : goal.returns-in_err-k
unfolding mode_names modes cut
returns-in_err-k c = c.from_residual.ensures ∙ class_unfound _ _ _ c.trim.ensures c.named_in.ensures c.in_err-k.was

pub returns : goal.returns
unfolding mode_names modes cut
returns c = class_found _ _ _ c.trim.ensures c.named_in.ensures _ _ c.in_ok-k.was c.class_at.ensures
