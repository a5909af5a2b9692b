use Rattle.times.proofs.WindowLaws.{both_moments}
use Rattle.times.proofs.window.within_window.Goals as goal

pub returns-in-Some-Some : goal.returns-in-Some-Some
returns-in-Some-Some c = both_moments _ _ _ _ c.in-Some-Some.is-0 _ _ _ c.ranges.window c.in-Some-Some.is-1 c.distance.ensures c.limit_of.ensures
