use mathlib.Core.Path.{sym, ◌∙◌}
use Rattle.planner.proofs.FinishLaws.{gone_all, gone_none}
use Rattle.planner.proofs.gone.Goals as goal

pub returns-then-is_err : goal.returns-then-is_err
returns-then-is_err c = gone_all _ _ (sym c.is_err.ensures.value ∙ c.if-is_err.true)

pub returns-else-is_err : goal.returns-else-is_err
returns-else-is_err c = gone_none _ _ (sym c.is_err.ensures.value ∙ c.if-is_err.false)
