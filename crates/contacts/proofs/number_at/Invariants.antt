use Prim.Native.Nat.{◌<◌, ◌^◌}
use mathlib.Core.Path.{◌≡◌}
use Rattle.contacts.specs.Lists.{number_at}
use Rattle.contacts.proofs.number_at.Given as goal

abbrev pub invariant-loop-i : goal.invariant-loop-i
invariant-loop-i l = (l.n ≡ number_at l.s l.at l.i) × (l.n < 256 ^ l.i)
