use Rattle.infile.proofs.WalkLaws.{other_code, other_time, same_time}
use Rattle.infile.proofs.is_alike.Goals as goal

pub returns-then-earlier-row : goal.returns-then-earlier-row
returns-then-earlier-row c = search other_code

pub returns-then-is_near : goal.returns-then-is_near
returns-then-is_near c = search same_time

pub returns-else-is_near : goal.returns-else-is_near
returns-else-is_near c = search other_time
