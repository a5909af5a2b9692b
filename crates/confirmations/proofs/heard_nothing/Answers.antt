use Rattle.confirmations.specs.Heard.{heard_of}
use Rattle.confirmations.proofs.heard_nothing.Goals as goal

pub returns : goal.returns
unfolding heard_of
returns c = cc
