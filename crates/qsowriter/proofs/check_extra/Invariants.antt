use mathlib.Core.Path.{◌≡◌}
use Prim.Native.Nat.{◌+◌, ◌*◌, ◌≤◌}
use lib.ListN.{length}
use Rattle.qsowriter.proofs.CheckLaws.{Checking}
use Rattle.qsowriter.proofs.check_extra.Given as goal

abbrev pub invariant-loop-i : goal.invariant-loop-i
invariant-loop-i l = (l.n ≤ 1) × (l.c ≤ 13 + l.n * 243) × (length l.cells ≡ 13) × Checking l.text l.cells l.table l.count l.n l.c l.p l.i
