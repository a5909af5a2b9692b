use native.Mathlib.Omega.{arith}
use Rattle.headers.proofs.SizeLaws.{with_long, with_size}
use Rattle.headers.proofs.with_field.Goals as goal

pub returns-then-value-gt-LONGEST-clause-value : goal.returns-then-value-gt-LONGEST-clause-value
returns-then-value-gt-LONGEST-clause-value c = search with_long

pub returns-then-value-gt-LONGEST-clause-upper_bound : goal.returns-then-value-gt-LONGEST-clause-upper_bound
returns-then-value-gt-LONGEST-clause-upper_bound c = omega arith

pub returns-clause-value : goal.returns-clause-value
returns-clause-value c = search with_size

pub returns-clause-upper_bound : goal.returns-clause-upper_bound
returns-clause-upper_bound c = omega arith
