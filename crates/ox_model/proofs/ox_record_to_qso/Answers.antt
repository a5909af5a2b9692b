use Rattle.ox_model.proofs.AnswerLaws.{mapped_is}
use Rattle.ox_model.proofs.ox_record_to_qso.Goals as goal

pub returns : goal.returns
returns c = search mapped_is
