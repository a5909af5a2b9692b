use Rattle.wanted.proofs.WantedLaws.{wanted_is}
use Rattle.wanted.proofs.wanted_at.Goals as goal

pub returns : goal.returns
returns c = search wanted_is
