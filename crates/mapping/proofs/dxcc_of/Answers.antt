use Rattle.mapping.proofs.AnswerLaws.{number_is}
use Rattle.mapping.proofs.dxcc_of.Goals as goal

pub returns-in-Some : goal.returns-in-Some
returns-in-Some c = search number_is
