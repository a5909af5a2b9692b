use Rattle.wanted.proofs.WantedLaws.{key_is}
use Rattle.wanted.proofs.key_at.Goals as goal

pub returns : goal.returns
returns c = search key_is
