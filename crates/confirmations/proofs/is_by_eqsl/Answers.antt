use Rattle.confirmations.specs.Heard.{eqsl_by}
use Rattle.confirmations.proofs.is_by_eqsl.Goals as goal

pub returns : goal.returns
unfolding eqsl_by
returns c = cc
