use Rattle.ox_model.proofs.AnswerLaws.{refused_is}
use Rattle.ox_model.proofs.refusal_of.Goals as goal

pub returns-in-Err : goal.returns-in-Err
returns-in-Err c = search refused_is
