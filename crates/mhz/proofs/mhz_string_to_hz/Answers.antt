use Rattle.mhz.specs.Reading.{read_hertz}
use Rattle.mhz.proofs.mhz_string_to_hz.Goals as goal

pub returns : goal.returns
unfolding read_hertz
returns c = cc
