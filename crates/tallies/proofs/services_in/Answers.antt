use Rattle.tallies.proofs.TallyLaws.{services_are}
use Rattle.tallies.proofs.services_in.Goals as goal

pub returns : goal.returns
returns c = search services_are
