use Rattle.mapping.proofs.RowLaws.{does_rise}
use Rattle.mapping.proofs.does_rise.Goals as goal

pub returns : goal.returns
returns c = search does_rise
