use mathlib.Core.Path.{◌≡◌}
use Prim.Native.Nat.{◌≤◌}
use Rattle.fields.specs.Written.{fields_text}
use Rattle.headers.specs.Answer.{capped_after}
use Rattle.merge.specs.Steps.{fields_between}
use Rattle.merge.proofs.rows_size.Given as goal

abbrev pub invariant-loop-i : goal.invariant-loop-i
invariant-loop-i l = (l.all ≤ 16777217) × (capped_after l.all (fields_text (fields_between l.text l.table l.i l.end)) ≡ capped_after l.size (fields_text (fields_between l.text l.table l.first l.end)))
