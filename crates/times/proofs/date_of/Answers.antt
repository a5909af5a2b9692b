use Rattle.times.proofs.MomentLaws.{eight_is, eight_below, no_date}
use Rattle.times.proofs.date_of.Goals as goal

pub returns-then-d-eq8-clause-value : goal.returns-then-d-eq8-clause-value
returns-then-d-eq8-clause-value c = search eight_is

pub returns-then-d-eq8-clause-below : goal.returns-then-d-eq8-clause-below
returns-then-d-eq8-clause-below c = search eight_below

pub returns-else-d-eq8-clause-value : goal.returns-else-d-eq8-clause-value
returns-else-d-eq8-clause-value c = search no_date

pub returns-else-d-eq8-clause-below : goal.returns-else-d-eq8-clause-below
returns-else-d-eq8-clause-below c = tt
