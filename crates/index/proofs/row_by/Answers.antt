use Rattle.index.proofs.RowLaws.{row_by_is}
use borrow.Author.Rules.{rules}
use Rattle.index.proofs.row_by.Goals as goal

pub returns : goal.returns
returns c = search (rules, row_by_is)
