use Prim.Native.Nat.{◌≤◌, ◌*◌}
use mathlib.Core.Path.{◌≡◌}
use lib.ListN.{length}
use Rattle.entries.proofs.WalkLaws.{Filling}
use Rattle.entries.proofs.fill.Given as goal

abbrev pub invariant-loop-k : goal.invariant-loop-k
invariant-loop-k l = (l.n ≤ 65535) × (l.first * 5 ≤ length l.table) × (length l.rows ≡ length l.initial.rows) × Filling l.text l.table l.n l.initial.rows l.rows l.first l.k
