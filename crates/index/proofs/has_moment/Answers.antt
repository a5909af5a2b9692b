use Rattle.index.proofs.RowLaws.{moment_told}
use Rattle.index.proofs.has_moment.Goals as goal

pub returns : goal.returns
returns c = moment_told c.args.m c.is_some.result c.is_some.ensures
