use Rattle.search.proofs.FindLaws.{near_never, never_near, both_near}
use Rattle.search.proofs.is_near.Goals as goal

pub returns-in-Some-Some : goal.returns-in-Some-Some
returns-in-Some-Some c = both_near _ _ _ _ _ _ c.in-Some-Some.is-0 c.in-Some-Some.is-1 c.distance.ensures

pub returns-in_default : goal.returns-in_default
returns-in_default c = never_near _ _ _ _ c.in_default.is-0 c.in_default.is-1

pub returns-in_default-2 : goal.returns-in_default-2
returns-in_default-2 c = near_never _ _ _ c.in_default.is-0
