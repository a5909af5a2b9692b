use mathlib.Core.Path.{◌≡◌}
use lib.ListN.{length}
use Rattle.fates.proofs.SettleLaws.{Done}
use Rattle.fates.proofs.settle.Given as goal

abbrev pub invariant-loop-k : goal.invariant-loop-k
invariant-loop-k l = (length l.rows ≡ length l.initial.rows) × Done l.text l.limit l.download l.n l.k l.initial.rows l.rows
