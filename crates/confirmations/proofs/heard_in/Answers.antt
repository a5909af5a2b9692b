use Rattle.confirmations.proofs.RowLaws.{no_rows, row_silent, row_told, all_rows}
use Rattle.confirmations.proofs.heard_in.Goals as goal

pub loop-i-init : goal.loop-i-init
loop-i-init c = search no_rows

pub loop-i-preserved-then-not-is_telling : goal.loop-i-preserved-then-not-is_telling
loop-i-preserved-then-not-is_telling c = search row_silent

pub loop-i-preserved : goal.loop-i-preserved
loop-i-preserved c =
    row_told _ _ _ _ _ _ _ _ c.loop-i-test.true c.loop-i.auto.i c.loop-i.invariant
    c.row_at-row.ensures
    c.name_of-name.ensures
    _
    _
    c.value_place.ensures
    c.heard_with-heard.ensures

pub returns : goal.returns
returns c = search all_rows
