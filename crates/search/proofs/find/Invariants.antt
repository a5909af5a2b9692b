use Rattle.index.specs.Contacts.{plain}
use Rattle.search.proofs.FindLaws.{Walking}
use Rattle.search.proofs.find.Given as goal

abbrev pub invariant-loop-at : goal.invariant-loop-at
invariant-loop-at l = Walking l.list (plain l.rows) l.text l.wanted l.limit l.n l.code l.at l.best

abbrev pub decreases-loop-at : goal.decreases-loop-at
decreases-loop-at l = l.at
