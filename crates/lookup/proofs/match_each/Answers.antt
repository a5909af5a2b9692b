use Rattle.index.specs.Contacts.{plain}
use Rattle.lookup.proofs.LookLaws.{match_start, match_indexed, match_short, match_place, match_on, match_end}
use Rattle.lookup.proofs.match_each.Goals as goal

pub loop-i-init : goal.loop-i-init
loop-i-init c = let a = c.args in match_start a.list.now a.limit a.other.now a.n a.k (plain a.rows.now) c.requires.1 a.found.now

pub loop-i-preserved : goal.loop-i-preserved
loop-i-preserved c =
    let a = c.args in
    match_on a.list.now a.limit a.other.now a.n a.k (plain a.rows.now) c.requires.1 c.loop-i.i c.loop-i.at a.found.now c.loop-i.found c.loop-i-test.true c.loop-i.invariant
    c.wanted_at-wanted.result c.find-hit.result c.number_of.result c.wanted_at-wanted.ensures c.find-hit.ensures c.number_of.ensures c.end_at-at.result c.end_at-at.ensures.value

pub returns : goal.returns
returns c = let a = c.args in match_end a.list.now a.limit a.other.now a.k c.loop-i.i c.loop-i.at a.found.now c.loop-i.found c.loop-i-test.false c.loop-i.invariant

pub wanted_at-wanted-requires : goal.wanted_at-wanted-requires
wanted_at-wanted-requires c =
    let a = c.args in (
      match_short a.list.now a.limit a.other.now a.n a.k (plain a.rows.now) c.requires.1 c.loop-i.i c.loop-i.at a.found.now c.loop-i.found c.loop-i-test.true c.loop-i.invariant,
      match_place a.list.now a.limit a.other.now a.n a.k (plain a.rows.now) c.requires.1 c.loop-i.i c.loop-i.at a.found.now c.loop-i.found c.loop-i-test.true c.loop-i.invariant,
    )

pub find-hit-requires : goal.find-hit-requires
find-hit-requires c =
    let a = c.args in
    match_indexed a.list.now a.limit a.other.now a.n a.k (plain a.rows.now) c.requires.1 c.loop-i.i c.loop-i.at a.found.now c.loop-i.found c.loop-i-test.true c.loop-i.invariant

pub end_at-at-requires : goal.end_at-at-requires
end_at-at-requires c =
    let a = c.args in
    match_place a.list.now a.limit a.other.now a.n a.k (plain a.rows.now) c.requires.1 c.loop-i.i c.loop-i.at a.found.now c.loop-i.found c.loop-i-test.true c.loop-i.invariant
