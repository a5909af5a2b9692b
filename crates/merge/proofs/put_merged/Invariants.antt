use mathlib.Core.Path.{◌≡◌}
use Prim.Native.Nat.{◌≤◌}
use lib.ListN.{length}
use Rattle.fields.proofs.FieldLaws.{Left}
use Rattle.merge.specs.Steps.{merged_text}
use Rattle.merge.proofs.MergeLaws.{rest}
use Rattle.merge.proofs.put_merged.Given as goal

abbrev pub invariant-loop-k : goal.invariant-loop-k
invariant-loop-k l = (l.first ≤ l.count) × (length l.cell-items ≡ 13) × Left l.initial.out l.out l.at (rest l.text l.cell-items l.table l.count l.k l.first) (merged_text l.text l.cell-items l.table l.count)
