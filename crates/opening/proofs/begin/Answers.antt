use Rattle.opening.proofs.OpenLaws.{blank_fates, begun_refused, begun_read}
use borrow.Author.Rules.{rules}
use Rattle.opening.proofs.begin.Goals as goal

pub read_rows-requires : goal.read_rows-requires
read_rows-requires c = search (rules, blank_fates)

pub returns-in-Err : goal.returns-in-Err
returns-in-Err c = search (rules, begun_refused)

pub returns-in-Ok : goal.returns-in-Ok
returns-in-Ok c = search (rules, begun_read)
