use Rattle.mapping.proofs.AnswerLaws.{dxcc_is}
use Rattle.mapping.proofs.dxcc_at.Goals as goal

pub returns : goal.returns
returns c = search dxcc_is
