use Prim.Native.Nat.{◌+◌}
use mathlib.Core.Path.{◌≡◌}
use Prim.Native.Nat.{◌≤◌, ◌-◌}
use lib.ListN.{length}
use Rattle.mhz.proofs.WriteLaws.{Left}
use Rattle.mhz.proofs.put_last.Given as goal

abbrev pub invariant-loop-i : goal.invariant-loop-i
invariant-loop-i l = (l.at + l.k ≤ length l.initial.out) × (length l.out ≡ length l.initial.out) × Left l.initial.out l.out l.at (l.k - l.i) l.rest l.k l.n
