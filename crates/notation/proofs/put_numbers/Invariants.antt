use Prim.Native.Nat.{◌≤◌}
use lib.ListN.{length}
use Rattle.notation.proofs.put_numbers.Given as goal

abbrev pub invariant-loop-n : goal.invariant-loop-n
invariant-loop-n g l = l.to ≤ length l.out
