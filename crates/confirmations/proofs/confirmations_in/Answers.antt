use Rattle.confirmations.proofs.AnswerLaws.{by_rows}
use Rattle.confirmations.proofs.confirmations_in.Goals as goal

pub returns : goal.returns
returns c = search by_rows
