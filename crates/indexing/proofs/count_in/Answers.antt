use Rattle.indexing.proofs.BuildLaws.{count_marked, count_refused}
use Rattle.indexing.proofs.count_in.Goals as goal

pub returns-in-Ok : goal.returns-in-Ok
returns-in-Ok c = search count_marked

pub returns-in-Err : goal.returns-in-Err
returns-in-Err c = search count_refused
