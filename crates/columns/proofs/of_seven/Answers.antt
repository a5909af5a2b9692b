use Rattle.columns.proofs.ColumnLaws.{time_on_lem, submode, freq_rx_lem, band_rx_lem, none_of_seven}
use Rattle.columns.proofs.of_seven.Goals as goal

pub returns-then-same : goal.returns-then-same
returns-then-same c = search time_on_lem

pub returns-then-same-2 : goal.returns-then-same-2
returns-then-same-2 c = search submode

pub returns-then-same-3 : goal.returns-then-same-3
returns-then-same-3 c = search freq_rx_lem

pub returns-then-same-4 : goal.returns-then-same-4
returns-then-same-4 c = search band_rx_lem

pub returns : goal.returns
returns c = search none_of_seven
