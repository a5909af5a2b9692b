use Rattle.mapping.proofs.RowLaws.{no_rows, row_extra, row_column, a_column_below, all_rows}
use borrow.Author.Rules.{rules}
use Rattle.mapping.proofs.columns_of.Goals as goal

pub loop-i-init : goal.loop-i-init
loop-i-init c = (search rules, search no_rows)

pub loop-i-preserved-in_default : goal.loop-i-preserved-in_default
loop-i-preserved-in_default c = (search rules, search row_extra)

pub bounds-columns-k : goal.bounds-columns-k
bounds-columns-k c = search a_column_below

pub loop-i-preserved : goal.loop-i-preserved
loop-i-preserved c = (search rules, search row_column)

pub returns : goal.returns
returns c = search all_rows
