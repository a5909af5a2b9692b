use native.Mathlib.Omega.{arith}
use mathlib.Core.Path.{sym, ap, ◌∙◌}
use mir.Syntax.{w64}
use mir.ValLaws.{to_z-of_z}
use Rattle.times.specs.Window.{limit_of}
use Rattle.index.specs.Contacts.{plain}
use Rattle.index.proofs.ContactLaws.{plain_length}
use Rattle.indexing.specs.Index.{indexed_as, index_after}
use Rattle.planner.specs.Finished.{gone_of}
use Rattle.planner.proofs.ResultLaws.{asked_room, asked_searchable, ready_now, planned_to, gone_within, cleared_is}
use Rattle.planner.proofs.plan.Goals as goal

pub find_each-requires : goal.find_each-requires
find_each-requires c =
    let a = c.args in (
      asked_room a.text.now a.list.now a.window a.download a.table.now (plain a.index.now) a.fates.now a.cards.now c.build-listed.result
          (c.build-listed.ensures.value ∙ ap (indexed_as a.list.now) (sym (plain_length a.index.now))) (plain c.build-listed.new.rows)
          (c.build-listed.ensures.rows_after ∙ ap (index_after a.list.now) (sym (plain_length a.index.now))) (plain_length c.build-listed.new.rows ∙ c.build-listed.auto.rows ∙ sym (plain_length a.index.now))
          c.begin-reading.result c.begin-reading.new.table c.begin-reading.new.fates c.begin-reading.new.cards c.begin-reading.ensures c.begin-reading.auto.table
          c.count_in-records.result c.count_in-records.ensures,
      asked_searchable a.text.now a.list.now a.window a.download a.table.now (plain a.index.now) a.fates.now a.cards.now c.build-listed.result
          (c.build-listed.ensures.value ∙ ap (indexed_as a.list.now) (sym (plain_length a.index.now))) (plain c.build-listed.new.rows)
          (c.build-listed.ensures.rows_after ∙ ap (index_after a.list.now) (sym (plain_length a.index.now))) (plain_length c.build-listed.new.rows ∙ c.build-listed.auto.rows ∙ sym (plain_length a.index.now))
          c.begin-reading.result c.begin-reading.new.table c.begin-reading.new.fates c.begin-reading.new.cards c.begin-reading.ensures c.begin-reading.auto.table
          c.count_in-contacts.result c.count_in-records.result c.count_in-contacts.ensures c.count_in-records.ensures,
    )

pub finish-planned-requires : goal.finish-planned-requires
finish-planned-requires c =
    let a = c.args in
    rw (to_z-of_z w64 a.window c.ranges.window)
    (ready_now a.text.now a.list.now a.window a.download a.table.now (plain a.index.now) a.fates.now a.cards.now c.build-listed.result
    (c.build-listed.ensures.value ∙ ap (indexed_as a.list.now) (sym (plain_length a.index.now))) (plain c.build-listed.new.rows)
    (c.build-listed.ensures.rows_after ∙ ap (index_after a.list.now) (sym (plain_length a.index.now))) (plain_length c.build-listed.new.rows ∙ c.build-listed.auto.rows ∙ sym (plain_length a.index.now))
    c.begin-reading.result c.begin-reading.new.table c.begin-reading.new.fates c.begin-reading.new.cards c.begin-reading.ensures c.begin-reading.auto.table
    c.limit_of-limit.result (c.limit_of-limit.ensures ∙ ap limit_of (to_z-of_z w64 a.window c.ranges.window)) c.count_in-records.result c.count_in-records.ensures
    c.find_each.new.rows c.find_each.ensures)

pub fill-requires : goal.fill-requires
fill-requires c = (omega arith, gone_within _ _ _ c.gone-cleared.ensures, λ h. absurd (omega arith))

pub returns : goal.returns
returns c =
    let a = c.args in
    planned_to a.text.now a.list.now a.window a.download a.table.now (plain a.index.now) a.fates.now a.cards.now c.build-listed.result
    (c.build-listed.ensures.value ∙ ap (indexed_as a.list.now) (sym (plain_length a.index.now))) (plain c.build-listed.new.rows)
    (c.build-listed.ensures.rows_after ∙ ap (index_after a.list.now) (sym (plain_length a.index.now))) (plain_length c.build-listed.new.rows ∙ c.build-listed.auto.rows ∙ sym (plain_length a.index.now))
    c.begin-reading.result c.begin-reading.new.table c.begin-reading.new.fates c.begin-reading.new.cards c.begin-reading.ensures c.begin-reading.auto.table
    c.limit_of-limit.result (c.limit_of-limit.ensures ∙ ap limit_of (to_z-of_z w64 a.window c.ranges.window)) c.count_in-records.result c.count_in-records.ensures
    c.find_each.new.rows c.find_each.ensures
    c.finish-planned.result c.finish-planned.new.table c.finish-planned.new.fates c.finish-planned.new.cards (rw (to_z-of_z w64 a.window c.ranges.window) at c.finish-planned.ensures)
    c.gone-cleared.result (plain c.fill.new.rows) (c.gone-cleared.ensures ∙ ap (gone_of c.finish-planned.result) (sym (plain_length c.build-listed.new.rows)))
    (cleared_is a.list.now c.gone-cleared.result _ _ c.fill.ensures)
