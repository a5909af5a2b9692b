use native.Mathlib.Omega.{arith}
use Rattle.contacts.specs.Lists.{call_at, date_at, time_at, band_at, mode_at, end_at}
use Rattle.contacts.proofs.end_at.Goals as goal

pub returns-clause-value : goal.returns-clause-value
unfolding call_at date_at time_at band_at mode_at end_at
returns-clause-value c = cc

pub returns-clause-upper_bound : goal.returns-clause-upper_bound
unfolding call_at date_at time_at band_at mode_at end_at
returns-clause-upper_bound c = omega arith
