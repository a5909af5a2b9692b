use mathlib.Core.Path.{◌≡◌}
use Prim.Native.Nat.{◌<◌}
use lib.ListN.{drop}
use Rattle.tables.specs.Table.{digits}
use Rattle.tables.proofs.KeyLaws.{limit}
use Rattle.tables.proofs.text_key.Given as goal

abbrev pub invariant-loop-b : goal.invariant-loop-b
invariant-loop-b l = (l.k < limit l.b-index) × (digits l.k (drop l.b-index l.text) ≡ digits 1 l.text)
