use Rattle.bands.proofs.canonical_band.Goals as goal

pub returns : goal.returns
returns c = cc
