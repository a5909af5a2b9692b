use Rattle.logged.proofs.wanted_in.Goals as goal

pub returns : goal.returns
returns c = cc
