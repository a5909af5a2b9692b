use mathlib.Core.Path.{refl, sym}
use native.Mathlib.Omega.{arith}
use lib.ListN.{length}
use Rattle.index.proofs.ContactLaws.{plain_length}
use Rattle.indexing.proofs.BuildLaws.{index_sound, index_room, index_few, index_done}
use Rattle.indexing.proofs.build.Goals as goal

pub fill-requires : goal.fill-requires
fill-requires c =
    let m = length c.args.rows.now in
    let l = c.listed_in-listed in (
      index_room c.args.list.now m l.result l.ensures.value c.count_in-n.result c.count_in-n.ensures m refl,
      omega arith,
      index_sound c.args.list.now m l.result l.ensures.value c.count_in-n.result c.count_in-n.ensures,
    )

pub link-requires : goal.link-requires
link-requires c =
    let m = length c.args.rows.now in
    let l = c.listed_in-listed in (
      index_room c.args.list.now m l.result l.ensures.value c.count_in-n.result c.count_in-n.ensures _ (sym c.fill.auto.rows),
      index_few c.args.list.now m l.result l.ensures.value c.count_in-n.result c.count_in-n.ensures l.ensures.few,
    )

pub returns-clause-rows_after : goal.returns-clause-rows_after
returns-clause-rows_after c =
    let m = length c.args.rows.now in
    let l = c.listed_in-listed in
    index_done c.args.list.now m l.result l.ensures.value c.count_in-n.result c.count_in-n.ensures _ _ _ (sym (plain_length c.args.rows.now)) c.fill.ensures c.link.ensures
