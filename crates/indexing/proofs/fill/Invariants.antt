use Rattle.indexing.proofs.FillLaws.{Filling}
use Rattle.indexing.proofs.fill.Given as goal

abbrev pub invariant-loop-k : goal.invariant-loop-k
invariant-loop-k l = Filling l.list l.n l.to l.initial.rows l.k l.at l.rows
