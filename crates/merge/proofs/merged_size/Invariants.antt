use mathlib.Core.Path.{◌≡◌}
use Prim.Native.Nat.{◌≤◌}
use lib.ListN.{length}
use Rattle.headers.specs.Answer.{capped, capped_after}
use Rattle.merge.specs.Steps.{merged_text}
use Rattle.merge.proofs.MergeLaws.{rest}
use Rattle.merge.proofs.merged_size.Given as goal

abbrev pub invariant-loop-k : goal.invariant-loop-k
invariant-loop-k l = (l.size ≤ 16777217) × (l.first ≤ l.count) × (length l.cell-items ≡ 13) × (capped_after l.size (rest l.text l.cell-items l.table l.count l.k l.first) ≡ capped (length (merged_text l.text l.cell-items l.table l.count)))
