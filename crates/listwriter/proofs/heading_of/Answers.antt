use Rattle.listwriter.proofs.HeadingLaws.{heading_none, heading_other, heading_bad, heading_good}
use borrow.Author.Rules.{rules}
use Rattle.listwriter.proofs.heading_of.Goals as goal

pub returns-then-is_empty : goal.returns-then-is_empty
returns-then-is_empty c = search (rules, heading_none)

pub returns-then-list-ne-VERSION : goal.returns-then-list-ne-VERSION
returns-then-list-ne-VERSION c = search (rules, heading_other)

pub returns-then-not-all : goal.returns-then-not-all
returns-then-not-all c = search (rules, heading_bad)

pub returns : goal.returns
returns c = search (rules, heading_good)
