use Rattle.columns.proofs.ColumnLaws.{qso_date_lem, rst_sent_lem, rst_rcvd_lem, none_of_eight}
use Rattle.columns.proofs.of_eight.Goals as goal

pub returns-then-same : goal.returns-then-same
returns-then-same c = search qso_date_lem

pub returns-then-same-2 : goal.returns-then-same-2
returns-then-same-2 c = search rst_sent_lem

pub returns-then-same-3 : goal.returns-then-same-3
returns-then-same-3 c = search rst_rcvd_lem

pub returns : goal.returns
returns c = search none_of_eight
