use Rattle.mapping.proofs.AnswerLaws.{qso_is}
use Rattle.mapping.proofs.qso_with.Goals as goal

pub returns : goal.returns
returns c = search qso_is
