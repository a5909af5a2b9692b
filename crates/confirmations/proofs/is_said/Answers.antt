use Rattle.confirmations.specs.Confirmations.{says}
use Rattle.confirmations.proofs.is_said.Goals as goal

pub returns : goal.returns
unfolding says
returns c = cc
