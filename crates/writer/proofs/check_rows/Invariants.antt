use Prim.Native.Nat.{◌≤◌, ◌*◌}
use Rattle.rowcheck.proofs.FineLaws.{Tally}
use Rattle.writer.proofs.CheckLaws.{Checking}
use Rattle.writer.proofs.check_rows.Given as goal

abbrev pub invariant-loop-i : goal.invariant-loop-i
invariant-loop-i l = (l.n ≤ 65535) × (l.c ≤ 256) × (l.i ≤ 16776960) × (l.size ≤ l.i * 33554500) × Tally l.n l.c l.i × Checking l.text l.table l.count l.n l.c l.p l.size l.i
