use Prim.Native.Nat.{◌≤◌, ◌+◌}
use lib.ListN.{length}
use Rattle.letters.specs.Capitals.{capitals}
use Rattle.output.proofs.PutLaws.{Half}
use Rattle.fields.proofs.put_raised.Given as goal

abbrev pub invariant-loop-i : goal.invariant-loop-i
invariant-loop-i l = (l.at + length l.src ≤ length l.initial.out) × Half l.initial.out l.out l.at l.i (capitals l.src)
