use Rattle.listwriter.proofs.HeadingLaws.{heading_front}
use borrow.Author.Rules.{rules}
use Rattle.listwriter.proofs.heading_in.Goals as goal

pub returns : goal.returns
returns c = search (rules, heading_front)
