use Rattle.indexing.proofs.FillLaws.{record_there, record_none}
use borrow.Author.Rules.{rules}
use Rattle.indexing.proofs.record_at.Goals as goal

pub row_at-requires : goal.row_at-requires
row_at-requires c = c.requires c.if-k-n.true

pub returns-then-k-n : goal.returns-then-k-n
returns-then-k-n c = search (rules, record_there)

pub returns : goal.returns
returns c = search (rules, record_none)
