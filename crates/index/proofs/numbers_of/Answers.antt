use Rattle.index.proofs.ContactLaws.{numbers_are}
use borrow.Author.Rules.{rules}
use Rattle.index.proofs.numbers_of.Goals as goal

pub returns : goal.returns
returns c = search (rules, numbers_are)
