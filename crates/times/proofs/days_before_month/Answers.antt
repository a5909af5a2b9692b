use native.Mathlib.Omega.{arith}
use Rattle.times.proofs.MonthLaws.{early_before, early_fits, leap_before, common_before}
use Rattle.times.proofs.days_before_month.Goals as goal

pub returns-then-month-le2-clause-value : goal.returns-then-month-le2-clause-value
returns-then-month-le2-clause-value c = search early_before

pub returns-then-month-le2-clause-upper_bound : goal.returns-then-month-le2-clause-upper_bound
returns-then-month-le2-clause-upper_bound c = search early_fits

pub returns-then-leap-clause-value : goal.returns-then-leap-clause-value
returns-then-leap-clause-value c = search leap_before

pub returns-then-leap-clause-upper_bound : goal.returns-then-leap-clause-upper_bound
returns-then-leap-clause-upper_bound c = omega arith

pub returns-else-leap-clause-value : goal.returns-else-leap-clause-value
returns-else-leap-clause-value c = search common_before

pub returns-else-leap-clause-upper_bound : goal.returns-else-leap-clause-upper_bound
returns-else-leap-clause-upper_bound c = omega arith
