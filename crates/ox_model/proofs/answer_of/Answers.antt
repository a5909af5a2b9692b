use Rattle.ox_model.proofs.AnswerLaws.{answer_is}
use Rattle.ox_model.proofs.answer_of.Goals as goal

pub returns : goal.returns
returns c = search answer_is
