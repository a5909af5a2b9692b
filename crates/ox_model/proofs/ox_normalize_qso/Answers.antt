use Rattle.ox_model.proofs.AnswerLaws.{normalized_is}
use Rattle.ox_model.proofs.ox_normalize_qso.Goals as goal

pub returns : goal.returns
returns c = search normalized_is
