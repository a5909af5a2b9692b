use Rattle.confirmations.proofs.AnswerLaws.{card_is}
use Rattle.confirmations.proofs.card_by.Goals as goal

pub returns : goal.returns
returns c = search card_is
