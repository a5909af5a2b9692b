use Rattle.tallies.proofs.TallyLaws.{target_is}
use Rattle.tallies.proofs.target_in.Goals as goal

pub returns : goal.returns
returns c = search target_is
