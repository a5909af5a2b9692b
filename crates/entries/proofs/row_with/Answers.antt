use mathlib.Core.Path.{◌∙◌}
use Rattle.plan.proofs.CountLaws.{byte_is}
use Rattle.entries.proofs.RowLaws.{row_is}
use Rattle.entries.proofs.row_with.Goals as goal

pub returns : goal.returns
returns c = row_is _ _ _ _ _ _ _ _ _ _ _ _ _ _ _
    c.judge-judged.ensures
    c.moment-moment.ensures
    c.seconds_in-seconds.ensures
    c.confirmations_in-answers.ensures
    c.has_moment.ensures
    c.low_half.ensures
    c.high_half.ensures
    c.bears_any.ensures
    (c.from.ensures ∙ byte_is _)
