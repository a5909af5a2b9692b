use Rattle.confirmations.proofs.AnswerLaws.{answer_yes, answer_no}
use Rattle.confirmations.proofs.answer_by.Goals as goal

pub returns-then-bears : goal.returns-then-bears
returns-then-bears c = search answer_yes

pub returns : goal.returns
returns c = search answer_no
