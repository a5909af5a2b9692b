use borrow.Author.Rules.{rules}
use Rattle.columns.proofs.ColumnLaws.{exact_or}
use Rattle.columns.proofs.column_of.Goals as goal

pub returns : goal.returns
returns c = exact_or c.args.name.now _ _ (λ h. search rules) c.exactly.ensures c.or_else.ensures
