use Rattle.columns.proofs.ColumnLaws.{gridsquare, none_of_ten}
use Rattle.columns.proofs.of_ten.Goals as goal

pub returns-then-same : goal.returns-then-same
returns-then-same c = search gridsquare

pub returns : goal.returns
returns c = search none_of_ten
