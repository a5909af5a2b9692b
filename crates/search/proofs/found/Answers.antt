use Rattle.search.proofs.FindLaws.{found_it, found_before}
use Rattle.search.proofs.found.Goals as goal

pub returns-then-is_match : goal.returns-then-is_match
returns-then-is_match c = search found_it

pub returns : goal.returns
returns c = search found_before
