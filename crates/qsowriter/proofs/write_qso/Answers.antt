use Rattle.qsowriter.proofs.AnswerLaws.{answer_is}
use Rattle.qsowriter.proofs.write_qso.Goals as goal

pub returns-clause-value : goal.returns-clause-value
returns-clause-value c = search answer_is
