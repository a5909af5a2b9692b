use Rattle.ox_qso.proofs.AnswerLaws.{answer_is}
use Rattle.ox_qso.proofs.ox_write_qso.Goals as goal

pub returns-clause-value : goal.returns-clause-value
returns-clause-value c = search answer_is
