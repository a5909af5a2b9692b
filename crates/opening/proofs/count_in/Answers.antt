use Rattle.opening.proofs.OpenLaws.{count_read, count_unread}
use Rattle.opening.proofs.count_in.Goals as goal

pub returns-in-Ok : goal.returns-in-Ok
returns-in-Ok c = search count_read

pub returns-in-Err : goal.returns-in-Err
returns-in-Err c = search count_unread
