use native.Mathlib.Omega.{arith}
use Rattle.contacts.specs.Lists.{after}
use Rattle.contacts.proofs.after_text.Goals as goal

pub returns-clause-value : goal.returns-clause-value
unfolding after
returns-clause-value c = omega arith

pub returns-clause-upper_bound : goal.returns-clause-upper_bound
unfolding after
returns-clause-upper_bound c = omega arith
