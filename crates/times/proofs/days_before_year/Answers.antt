use Rattle.times.proofs.YearLaws.{years_are, years_fit}
use Rattle.times.proofs.days_before_year.Goals as goal

pub returns-clause-value : goal.returns-clause-value
returns-clause-value c = years_are _

pub returns-clause-upper_bound : goal.returns-clause-upper_bound
returns-clause-upper_bound c = years_fit _ c.requires
