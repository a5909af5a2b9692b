use mathlib.Core.Path.{◌≡◌}
use Prim.Native.Nat.{◌≤◌}
use Rattle.plan.specs.Fates.{count, fates_in}
use Rattle.plan.proofs.count_fate.Given as goal

abbrev pub invariant-loop-row : goal.invariant-loop-row
invariant-loop-row l = (l.found ≤ l.row-index) × (l.found ≡ count l.fate (fates_in l.rows l.row-index))
