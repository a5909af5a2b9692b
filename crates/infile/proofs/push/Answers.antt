use Rattle.infile.proofs.LinkLaws.{push_is}
use borrow.Author.Rules.{rules}
use Rattle.infile.proofs.push.Goals as goal

pub returns : goal.returns
returns c = search (rules, push_is)
