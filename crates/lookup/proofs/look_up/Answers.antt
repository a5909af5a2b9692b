use mir.Syntax.{w64}
use mir.ValLaws.{to_z-of_z}
use Rattle.times.specs.Window.{limit_of}
use native.Mathlib.Omega.{arith}
use mathlib.Core.Path.{ap, ◌∙◌}
use lib.ListN.{length}
use Rattle.index.specs.Contacts.{plain}
use Rattle.index.proofs.ContactLaws.{plain_length}
use Rattle.lookup.specs.Lookup.{gone_of}
use Rattle.lookup.proofs.LookLaws.{gone_within, up_room, up_asks, up_answer, up_index, up_found}
use Rattle.lookup.proofs.look_up.Goals as goal

pub match_each-requires : goal.match_each-requires
match_each-requires c =
    let a = c.args in (
      up_room a.list.now a.other.now c.limit_of-limit.result (length a.rows.now) (length a.found.now) (plain c.build-built.new.rows) c.build-built.ensures.rows_after
          (plain_length c.build-built.new.rows ∙ c.build-built.auto.rows) c.fill.new.self (c.fill.ensures.after (λ y q. q)) c.build-built.result c.asked_of-asked.result (length c.fill.new.self)
          c.fill.ensures.len c.build-built.ensures.value c.asked_of-asked.ensures
          c.count_in-2.result c.count_in-2.ensures,
      up_asks a.list.now a.other.now c.limit_of-limit.result (length a.rows.now) (length a.found.now) (plain c.build-built.new.rows) c.build-built.ensures.rows_after
          (plain_length c.build-built.new.rows ∙ c.build-built.auto.rows) c.fill.new.self (c.fill.ensures.after (λ y q. q)) c.build-built.result c.asked_of-asked.result (length c.fill.new.self)
          c.fill.ensures.len c.build-built.ensures.value c.asked_of-asked.ensures
          c.count_in.result c.count_in-2.result c.count_in.ensures c.count_in-2.ensures,
    )

pub fill-requires-2 : goal.fill-requires-2
fill-requires-2 c = (omega arith, gone_within _ _ _ c.gone-cleared.ensures, λ h. absurd (omega arith))

pub returns-clause-value : goal.returns-clause-value
returns-clause-value c =
    let a = c.args in
    up_answer a.list.now a.other.now c.limit_of-limit.result (length a.rows.now) (length a.found.now) (plain c.build-built.new.rows) c.build-built.ensures.rows_after
    (plain_length c.build-built.new.rows ∙ c.build-built.auto.rows) c.fill.new.self (c.fill.ensures.after (λ y q. q)) c.build-built.result c.asked_of-asked.result (length c.fill.new.self)
    c.fill.ensures.len c.build-built.ensures.value c.asked_of-asked.ensures

pub returns-clause-rows_after : goal.returns-clause-rows_after
returns-clause-rows_after c =
    let a = c.args in
    up_index a.list.now a.other.now c.limit_of-limit.result (length a.rows.now) (length a.found.now) (plain c.build-built.new.rows) c.build-built.ensures.rows_after
    (plain_length c.build-built.new.rows ∙ c.build-built.auto.rows) c.fill.new.self (c.fill.ensures.after (λ y q. q)) c.build-built.result c.asked_of-asked.result (length c.fill.new.self)
    c.fill.ensures.len c.build-built.ensures.value c.asked_of-asked.ensures
    c.gone-cleared.result (plain c.fill-2.new.rows) (c.gone-cleared.ensures ∙ ap (gone_of c.asked_of-asked.result) c.build-built.auto.rows) c.fill-2.ensures

pub returns-clause-found_after : goal.returns-clause-found_after
returns-clause-found_after c =
    let a = c.args in
    up_found a.list.now a.other.now c.limit_of-limit.result (length a.rows.now) (length a.found.now) (plain c.build-built.new.rows) c.build-built.ensures.rows_after
    (plain_length c.build-built.new.rows ∙ c.build-built.auto.rows) c.fill.new.self (c.fill.ensures.after (λ y q. q)) c.build-built.result c.asked_of-asked.result (length c.fill.new.self)
    c.fill.ensures.len c.build-built.ensures.value c.asked_of-asked.ensures
    c.count_in-2.result c.match_each.new.found c.count_in-2.ensures c.match_each.ensures (limit_of a.window) (c.limit_of-limit.ensures ∙ ap limit_of (to_z-of_z w64 a.window c.ranges.window))
