use Rattle.search.proofs.FindLaws.{no_moment, a_moment}
use borrow.Author.Rules.{rules}
use Rattle.search.proofs.moment_from.Goals as goal

pub returns-then-there-eq0 : goal.returns-then-there-eq0
returns-then-there-eq0 c = search (rules, no_moment)

pub returns : goal.returns
returns c = search (rules, a_moment)
