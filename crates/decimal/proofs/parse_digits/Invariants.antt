use mathlib.Core.Path.{◌≡◌}
use Prim.Native.Nat.{◌<◌, ◌^◌}
use lib.ListN.{drop}
use Rattle.decimal.specs.Decimal.{digits_after, digits_of}
use Rattle.decimal.proofs.parse_digits.Given as goal

abbrev pub invariant-loop-d : goal.invariant-loop-d
invariant-loop-d l = (l.n < 2 ^ 64) × (digits_after l.n (drop l.d-index l.s) ≡ digits_of l.s)
