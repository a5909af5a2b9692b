use Prim.Native.Nat.{◌^◌}
use lib.Dec.{le→leb}
use lib.Ieee.{in_float}
use Rattle.hertz.proofs.ValueLaws.{product_is, quotient_is}
use Rattle.hertz.proofs.value.Goals as goal

pub int_to_float-result : goal.int_to_float-result
unfolding in_float
int_to_float-result c = le→leb c.args.digits (2 ^ 53) c.requires.digits_bound

pub int_to_float-result-else-down-up : goal.int_to_float-result-else-down-up
unfolding in_float
int_to_float-result-else-down-up c = le→leb c.args.digits (2 ^ 53) c.requires.digits_bound

pub returns-then-down-up : goal.returns-then-down-up
returns-then-down-up c = search product_is

pub returns-else-down-up : goal.returns-else-down-up
returns-else-down-up c = search quotient_is
