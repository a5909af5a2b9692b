use Rattle.confirmations.proofs.does_begin.Goals as goal

pub returns : goal.returns
returns c = cc
