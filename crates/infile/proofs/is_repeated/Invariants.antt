use Rattle.infile.proofs.WalkLaws.{Walking}
use Rattle.infile.proofs.is_repeated.Given as goal

abbrev pub invariant-loop-at : goal.invariant-loop-at
invariant-loop-at l = Walking l.text l.limit l.rows l.k l.n l.at

abbrev pub decreases-loop-at : goal.decreases-loop-at
decreases-loop-at l = l.at
