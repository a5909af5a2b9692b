use Rattle.columns.proofs.ColumnLaws.{call, band, mode, freq, dxcc, none_of_four}
use Rattle.columns.proofs.of_four.Goals as goal

pub returns-then-same : goal.returns-then-same
returns-then-same c = search call

pub returns-then-same-2 : goal.returns-then-same-2
returns-then-same-2 c = search band

pub returns-then-same-3 : goal.returns-then-same-3
returns-then-same-3 c = search mode

pub returns-then-same-4 : goal.returns-then-same-4
returns-then-same-4 c = search freq

pub returns-then-same-5 : goal.returns-then-same-5
returns-then-same-5 c = search dxcc

pub returns : goal.returns
returns c = search none_of_four
