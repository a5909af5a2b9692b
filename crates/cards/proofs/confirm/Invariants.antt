use Prim.Native.Nat.{◌≤◌}
use mathlib.Core.Path.{◌≡◌}
use lib.ListN.{length}
use Rattle.cards.proofs.EndLaws.{Counting}
use Rattle.cards.proofs.confirm.Given as goal

abbrev pub invariant-loop-k : goal.invariant-loop-k
invariant-loop-k l = (length l.rows ≡ length l.initial.rows) × (length l.cards ≡ length l.initial.cards) × (l.t.used ≤ length l.initial.cards) × Counting l.text l.table l.list l.n l.k l.initial.rows l.rows l.initial.cards l.cards l.t
