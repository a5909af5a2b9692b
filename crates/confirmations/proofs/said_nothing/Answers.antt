use Rattle.confirmations.proofs.said_nothing.Goals as goal

pub returns : goal.returns
returns c = cc
