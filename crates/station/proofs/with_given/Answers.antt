use native.Mathlib.Omega.{arith}
use Rattle.station.proofs.SizeLaws.{given_none, given_some}
use Rattle.station.proofs.with_given.Goals as goal

pub returns-then-is_blank-clause-value : goal.returns-then-is_blank-clause-value
returns-then-is_blank-clause-value c = search given_none

pub returns-then-is_blank-clause-upper_bound : goal.returns-then-is_blank-clause-upper_bound
returns-then-is_blank-clause-upper_bound c = omega arith

pub returns-clause-value : goal.returns-clause-value
returns-clause-value c = search given_some

pub returns-clause-upper_bound : goal.returns-clause-upper_bound
returns-clause-upper_bound c = omega arith
