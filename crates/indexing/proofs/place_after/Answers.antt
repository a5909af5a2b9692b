use borrow.Author.Rules.{rules}
use Rattle.indexing.proofs.FillLaws.{after_there, after_none}
use Rattle.indexing.proofs.place_after.Goals as goal

pub end_at-requires : goal.end_at-requires
end_at-requires c = c.requires c.if-k-n.true

pub returns-then-k-n : goal.returns-then-k-n
returns-then-k-n c = search (rules, after_there)

pub returns : goal.returns
returns c = search (rules, after_none)
