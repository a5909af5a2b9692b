use Rattle.ox_model.proofs.AnswerLaws.{column_refused, column_accepted}
use Rattle.ox_model.proofs.ox_column.Goals as goal

pub returns-in-Err : goal.returns-in-Err
returns-in-Err c = search column_refused

pub returns-in-Ok : goal.returns-in-Ok
returns-in-Ok c = search column_accepted
