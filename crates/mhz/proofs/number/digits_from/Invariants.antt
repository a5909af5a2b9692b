use Prim.Native.Nat.{◌≤◌}
use lib.ListN.{length}
use Rattle.mhz.proofs.DigitLaws.{Reads}
use Rattle.mhz.proofs.number.digits_from.Given as goal

abbrev pub invariant-loop-at : goal.invariant-loop-at
invariant-loop-at l = (l.at ≤ length l.s) × Reads l.s l.from l.most l.n l.at l.held
