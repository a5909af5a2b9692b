use Rattle.qsowriter.proofs.TakenLaws.{one_more}
use Rattle.qsowriter.proofs.with_row.Goals as goal

pub returns-else-taken : goal.returns-else-taken
returns-else-taken c = search one_more
