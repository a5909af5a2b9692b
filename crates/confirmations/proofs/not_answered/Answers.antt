use Rattle.confirmations.proofs.not_answered.Goals as goal

pub returns : goal.returns
returns c = cc
