use Rattle.lookup.proofs.LookLaws.{Matching}
use Rattle.lookup.proofs.match_each.Given as goal

abbrev pub invariant-loop-i : goal.invariant-loop-i
invariant-loop-i l = Matching l.list l.limit l.other l.k l.i l.at l.initial.found l.found
