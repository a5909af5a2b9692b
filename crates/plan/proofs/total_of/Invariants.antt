use mathlib.Core.Path.{◌≡◌}
use Prim.Native.Nat.{◌-◌, ◌*◌, ◌≤◌}
use Rattle.plan.specs.Fates.{fates_in}
use Rattle.plan.proofs.CountLaws.{sum_to}
use Rattle.plan.proofs.total_of.Given as goal

abbrev pub invariant-loop-fate : goal.invariant-loop-fate
invariant-loop-fate l = (l.total ≤ (l.fate - 1) * l.n) × (l.total ≡ sum_to (l.fate - 1) (fates_in l.rows l.n))
