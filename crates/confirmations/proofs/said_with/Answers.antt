use mathlib.Core.Path.{refl}
use Rattle.confirmations.proofs.RowLaws.{said_is}
use Rattle.confirmations.proofs.said_with.Goals.{then-same_raised, else-same_raised}
use Rattle.confirmations.proofs.said_with.Goals as goal

pub returns-then-same_raised-2 : goal.returns-then-same_raised-2
returns-then-same_raised-2 c =
    elim c.if-same_raised.branch [
      | then-same_raised w ↦ said_is _ _ _ _ _ _ c.same_raised.ensures _ c.same_raised-2.ensures _ _ (rw (w.if-same_raised.true) w.result-is) (rw (c.if-same_raised-2.true) refl)
      | else-same_raised w ↦ said_is _ _ _ _ _ _ c.same_raised.ensures _ c.same_raised-2.ensures _ _ (rw (w.if-same_raised.false) w.result-is) (rw (c.if-same_raised-2.true) refl)
    ]

pub returns-else-same_raised-2 : goal.returns-else-same_raised-2
returns-else-same_raised-2 c =
    elim c.if-same_raised.branch [
      | then-same_raised w ↦ said_is _ _ _ _ _ _ c.same_raised.ensures _ c.same_raised-2.ensures _ _ (rw (w.if-same_raised.true) w.result-is) (rw (c.if-same_raised-2.false) refl)
      | else-same_raised w ↦ said_is _ _ _ _ _ _ c.same_raised.ensures _ c.same_raised-2.ensures _ _ (rw (w.if-same_raised.false) w.result-is) (rw (c.if-same_raised-2.false) refl)
    ]
