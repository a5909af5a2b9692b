use Rattle.times.proofs.MomentLaws.{four_below, four_is, six_is, six_below, no_clock}
use Rattle.times.proofs.clock_of.Goals as goal

pub as_seconds-requires : goal.as_seconds-requires
as_seconds-requires c = search four_below

pub returns-then-t-eq4-clause-value : goal.returns-then-t-eq4-clause-value
returns-then-t-eq4-clause-value c = search four_is

pub returns-then-t-eq6-clause-value : goal.returns-then-t-eq6-clause-value
returns-then-t-eq6-clause-value c = search six_is

pub returns-then-t-eq6-clause-below : goal.returns-then-t-eq6-clause-below
returns-then-t-eq6-clause-below c = search six_below

pub returns-clause-value : goal.returns-clause-value
returns-clause-value c = search no_clock

pub returns-clause-below : goal.returns-clause-below
returns-clause-below c = tt
