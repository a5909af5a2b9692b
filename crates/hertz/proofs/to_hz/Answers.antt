use Rattle.hertz.specs.Whole.{to_hz}
use lib.Ieee.{of_bits}
use Rattle.hertz.proofs.to_hz.Goals as goal

pub returns : goal.returns
unfolding of_bits to_hz
returns c = c.rounded_to_u64.ensures
