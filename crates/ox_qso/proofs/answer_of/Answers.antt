use Rattle.ox_qso.proofs.AnswerLaws.{written_bytes, written_not}
use Rattle.ox_qso.proofs.answer_of.Goals as goal

pub returns-in-Ok : goal.returns-in-Ok
returns-in-Ok c = search written_bytes

pub returns-in-Err : goal.returns-in-Err
returns-in-Err c = search written_not
