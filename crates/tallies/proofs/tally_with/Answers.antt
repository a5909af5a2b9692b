use Rattle.tallies.proofs.TallyLaws.{tally_is}
use Rattle.tallies.proofs.tally_with.Goals as goal

pub returns-clause-value : goal.returns-clause-value
returns-clause-value c = search tally_is
