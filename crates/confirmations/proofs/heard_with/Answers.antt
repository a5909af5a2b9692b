use Rattle.confirmations.proofs.RowLaws.{heard_is}
use Rattle.confirmations.proofs.heard_with.Goals as goal

pub returns : goal.returns
returns c = heard_is _ _ _ _ _ _ _ _ _ _ _ _ _ c.said_with-lotw.ensures c.said_with-eqsl.ensures c.said_with-qrz.ensures c.said_with-card.ensures c.same_raised.ensures c.any.ensures c.does_begin.ensures c.any-2.ensures c.does_begin-2.ensures c.any-3.ensures
