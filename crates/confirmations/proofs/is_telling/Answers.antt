use Rattle.confirmations.specs.Heard.{telling}
use Rattle.confirmations.proofs.is_telling.Goals as goal

pub returns : goal.returns
unfolding telling
returns c = cc
