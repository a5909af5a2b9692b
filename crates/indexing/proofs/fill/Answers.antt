use Rattle.indexing.proofs.FillLaws.{fill_start, fill_place, fill_on, fill_end}
use Rattle.indexing.proofs.fill.Goals as goal

pub loop-k-init : goal.loop-k-init
loop-k-init c = let a = c.args in fill_start a.list.now a.n a.to a.rows.now c.requires.0 c.requires.2

pub record_at-requires : goal.record_at-requires
record_at-requires c = let a = c.args in fill_place a.list.now a.n a.to a.rows.now c.requires.0 c.requires.2 c.loop-k.k c.loop-k.at c.loop-k.rows c.loop-k.invariant

pub place_after-at-requires : goal.place_after-at-requires
place_after-at-requires c = let a = c.args in fill_place a.list.now a.n a.to a.rows.now c.requires.0 c.requires.2 c.loop-k.k c.loop-k.at c.loop-k.rows c.loop-k.invariant

pub loop-k-preserved : goal.loop-k-preserved
loop-k-preserved c =
    let a = c.args in
    fill_on a.list.now a.n a.to a.rows.now c.requires.0 c.requires.2 c.loop-k.k c.loop-k.at c.loop-k.rows c.loop-k.invariant c.loop-k-test.true
    c.record_at.result c.record_at.ensures c.place_after-at.result c.place_after-at.ensures

pub returns : goal.returns
returns c = let a = c.args in fill_end a.list.now a.n a.to a.rows.now c.requires.0 c.requires.2 c.loop-k.k c.loop-k.at c.loop-k.rows c.loop-k.invariant c.loop-k-test.false
