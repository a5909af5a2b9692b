use Rattle.planner.proofs.FinishLaws.{largest_marked, largest_refused}
use Rattle.planner.proofs.largest_in.Goals as goal

pub returns-in-Ok : goal.returns-in-Ok
returns-in-Ok c = search largest_marked

pub returns-in-Err : goal.returns-in-Err
returns-in-Err c = search largest_refused
