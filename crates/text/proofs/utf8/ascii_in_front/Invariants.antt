use Rattle.text.specs.Blocks.{Passed}
use Rattle.text.proofs.utf8.ascii_in_front.Given as goal

abbrev pub invariant-loop-i : goal.invariant-loop-i
invariant-loop-i l = Passed l.s 0 0 l.i
