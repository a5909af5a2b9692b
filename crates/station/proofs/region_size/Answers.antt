use native.Mathlib.Omega.{arith}
use Rattle.headers.proofs.SizeLaws.{three_sizes}
use Rattle.station.proofs.region_size.Goals as goal

pub returns-clause-value : goal.returns-clause-value
returns-clause-value c = search three_sizes

pub returns-clause-upper_bound : goal.returns-clause-upper_bound
returns-clause-upper_bound c = omega arith
