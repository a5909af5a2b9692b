use Rattle.mapping.proofs.AnswerLaws.{over_columns}
use Rattle.mapping.proofs.answer_over.Goals as goal

pub returns : goal.returns
returns c = search over_columns
