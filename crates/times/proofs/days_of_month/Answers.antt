use Rattle.times.proofs.MonthLaws.{other_days, leap_february, common_february}
use Rattle.times.proofs.days_of_month.Goals as goal

pub returns-then-month-ne2 : goal.returns-then-month-ne2
returns-then-month-ne2 c = search other_days

pub returns-then-leap : goal.returns-then-leap
returns-then-leap c = search leap_february

pub returns-else-leap : goal.returns-else-leap
returns-else-leap c = search common_february
