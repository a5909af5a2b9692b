use lib.ListN.{take}
use Rattle.logged.proofs.LoggedLaws.{Looking}
use Rattle.logged.proofs.find_each.Given as goal

abbrev pub invariant-loop-row : goal.invariant-loop-row
invariant-loop-row l = Looking l.text l.list l.limit l.n (take l.n l.fn.rows) l.row-items l.row-index
