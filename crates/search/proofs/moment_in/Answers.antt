use mathlib.Core.Path.{sym, ap, ◌∙◌}
use Rattle.std.specs.Prelude.{Some}
use Rattle.search.specs.Steps.{row_moment}
use Rattle.search.proofs.FindLaws.{no_moment, a_moment, halves}
use Rattle.search.proofs.moment_in.Goals as goal

pub returns-then-c-eq0 : goal.returns-then-c-eq0
unfolding row_moment
returns-then-c-eq0 c = no_moment _ _ c.if-c-eq0.true

pub returns : goal.returns
unfolding row_moment
returns c = sym (ap Some (halves c.args.c.seconds)) ∙ a_moment _ _ c.if-c-eq0.false
