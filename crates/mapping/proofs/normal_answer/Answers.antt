use Rattle.mapping.proofs.AnswerLaws.{normal_answer}
use Rattle.mapping.proofs.normal_answer.Goals as goal

pub returns : goal.returns
returns c = search normal_answer
