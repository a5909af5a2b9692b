use Rattle.indexing.proofs.ChainLaws.{Linking}
use Rattle.indexing.proofs.link.Given as goal

abbrev pub invariant-loop-k : goal.invariant-loop-k
invariant-loop-k l = Linking l.n l.initial.rows l.k l.rows
