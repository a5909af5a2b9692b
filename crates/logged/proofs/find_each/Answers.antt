use native.Mathlib.Omega.{arith}
use Prim.Native.Nat.{◌<◌, ◌≤◌}
use lib.ListN.{length, take}
use lib.Seq.{length-take-le}
use Rattle.index.specs.Contacts.{plain}
use Rattle.logged.proofs.LoggedLaws.{searchable, number_few, place_small, look_start, look_on, look_end}
use Rattle.logged.proofs.find_each.Goals as goal

pub loop-row-init : goal.loop-row-init
loop-row-init c = let a = c.args in look_start a.text.now a.list.now a.limit a.n (take a.n a.rows.now)

pub find-hit-requires : goal.find-hit-requires
find-hit-requires c =
    let a = c.args in
    let h : c.loop-row.row-index < a.n = omega (arith, length-take-le a.n a.rows.now c.requires.0) in
    searchable a.list.now a.contacts (plain a.index.now) a.n c.loop-row.row-index c.requires.1 h

pub with_hit-requires : goal.with_hit-requires
with_hit-requires c =
    let a = c.args in
    let h : c.loop-row.row-index < a.n = omega (arith, length-take-le a.n a.rows.now c.requires.0) in (
      number_few a.text.now a.list.now a.contacts (plain a.index.now) a.limit a.n c.loop-row.row-index c.wanted_in.result c.find-hit.result c.requires.1 h c.find-hit.ensures,
      place_small a.text.now a.list.now a.contacts (plain a.index.now) a.limit a.n c.loop-row.row-index c.wanted_in.result c.find-hit.result c.requires.1 h c.find-hit.ensures,
    )

pub loop-row-preserved : goal.loop-row-preserved
loop-row-preserved c =
    let a = c.args in
    let h : c.loop-row.row-index < a.n = omega (arith, length-take-le a.n a.rows.now c.requires.0) in
    let r : a.n ≤ length (take a.n a.rows.now) = omega (arith, length-take-le a.n a.rows.now c.requires.0) in
    look_on a.text.now a.list.now a.limit a.n (take a.n a.rows.now) c.loop-row.row-items c.loop-row.row-index c.with_hit.result c.wanted_in.result c.find-hit.result h r
    c.loop-row.auto.row-items c.wanted_in.ensures c.find-hit.ensures c.with_hit.ensures c.loop-row.invariant

pub returns : goal.returns
returns c = let a = c.args in look_end a.text.now a.list.now a.limit a.n a.rows.now c.requires.0 c.loop-row.row-items c.loop-row.row-index c.loop-row-test.false c.loop-row.invariant
