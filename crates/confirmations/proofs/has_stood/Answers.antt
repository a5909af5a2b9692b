use Rattle.confirmations.specs.Confirmations.{stood}
use Rattle.confirmations.proofs.has_stood.Goals as goal

pub returns : goal.returns
unfolding stood
returns c = cc
