use Prim.Native.Nat.{◌/◌}
use native.Mathlib.Omega.{arith}
use Rattle.output.proofs.DigitLaws.{decimal_few}
use Rattle.mhz.proofs.WriteLaws.{size_is}
use Rattle.mhz.proofs.mhz_size.Goals as goal

pub overflow_add-result : goal.overflow_add-result
overflow_add-result c = omega (arith, decimal_few (c.args.hz / 1000000), c.decimal_size.ensures)

pub returns : goal.returns
returns c = search size_is
