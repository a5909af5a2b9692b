use Rattle.mapping.proofs.AnswerLaws.{maps}
use Rattle.mapping.proofs.map_rows.Goals as goal

pub returns : goal.returns
returns c = search maps
