use Rattle.plan.specs.Plan.{counts_with}
use Rattle.plan.proofs.counts_of.Goals as goal

pub returns : goal.returns
unfolding counts_with
returns c = cc
