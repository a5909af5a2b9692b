use Rattle.lookup.proofs.LookLaws.{gone_all, gone_none}
use Rattle.lookup.proofs.gone.Goals as goal

pub returns-in-Err : goal.returns-in-Err
returns-in-Err c = search gone_all

pub returns-in-Ok : goal.returns-in-Ok
returns-in-Ok c = search gone_none
