use Rattle.counted.proofs.WalkLaws.{Walking}
use Rattle.counted.proofs.is_seen.Given as goal

abbrev pub invariant-loop-at : goal.invariant-loop-at
invariant-loop-at l = Walking l.text l.rows l.k l.s l.n l.at

abbrev pub decreases-loop-at : goal.decreases-loop-at
decreases-loop-at l = l.at
