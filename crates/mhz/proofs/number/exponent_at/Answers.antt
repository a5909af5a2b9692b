use Rattle.mhz.proofs.PartLaws.{exponent_is}
use Rattle.mhz.proofs.number.exponent_at.Goals as goal

pub returns-then-opens_exponent : goal.returns-then-opens_exponent
returns-then-opens_exponent c = search exponent_is
