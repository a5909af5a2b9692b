use Rattle.confirmations.proofs.AnswerLaws.{to_lotw, to_eqsl, to_card}
use Rattle.confirmations.proofs.attributed_to.Goals as goal

pub returns-then-of_lotw : goal.returns-then-of_lotw
returns-then-of_lotw c = search to_lotw

pub returns-then-of_eqsl : goal.returns-then-of_eqsl
returns-then-of_eqsl c = search to_eqsl

pub returns : goal.returns
returns c = search to_card
