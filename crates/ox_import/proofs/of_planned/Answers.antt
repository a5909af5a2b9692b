use Rattle.ox_import.proofs.PlanAnswers.{in_made, planned_made, planned_refused}
use Rattle.ox_import.proofs.of_planned.Goals as goal

pub counts_of-requires : goal.counts_of-requires
counts_of-requires c = in_made _ _ _ c.in-Ok.is c.requires

pub returns-in-Ok : goal.returns-in-Ok
returns-in-Ok c = search planned_made

pub returns-in-Err : goal.returns-in-Err
returns-in-Err c = search planned_refused
