use Rattle.reader.proofs.CloseLaws.{finish_none, finish_closed}
use Rattle.reader.proofs.finish.Goals as goal

pub returns-then-closed-eq0 : goal.returns-then-closed-eq0
returns-then-closed-eq0 c = search finish_none

pub returns : goal.returns
returns c = search finish_closed
