use lib.ListN.{take}
use Rattle.wiped.proofs.KeptLaws.{Keeping}
use Rattle.wiped.proofs.keep_fates.Given as goal

abbrev pub invariant-loop-row : goal.invariant-loop-row
invariant-loop-row l = Keeping l.n (take l.n l.fn.rows) l.row-items l.row-index
