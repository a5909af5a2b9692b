use mir.Syntax.{w64}
use mir.ValLaws.{to_z-of_z}
use Rattle.index.specs.Contacts.{plain}
use Rattle.planner.specs.Planning.{asked}
use Rattle.ox_import.proofs.PlanAnswers.{in_rows, answer_is, same_plan}
use Rattle.ox_import.proofs.ox_plan.Goals as goal

pub of_planned-requires : goal.of_planned-requires
of_planned-requires c =
    let a = c.args in
    in_rows (asked a.text.now a.list.now a.window a.download a.table.now (plain a.index.now) a.fates.now a.confirmations.now) c.plan-planned.result
    c.plan-planned.new.table (plain c.plan-planned.new.index) c.plan-planned.new.fates c.plan-planned.new.cards (rw (to_z-of_z w64 a.window c.ranges.window) at c.plan-planned.ensures)

pub returns-clause-value : goal.returns-clause-value
returns-clause-value c =
    let a = c.args in
    answer_is (asked a.text.now a.list.now a.window a.download a.table.now (plain a.index.now) a.fates.now a.confirmations.now) c.plan-planned.result
    c.plan-planned.new.table (plain c.plan-planned.new.index) c.plan-planned.new.fates c.plan-planned.new.cards (rw (to_z-of_z w64 a.window c.ranges.window) at c.plan-planned.ensures) c.of_planned.result c.of_planned.ensures

pub returns-clause-planned_to : goal.returns-clause-planned_to
returns-clause-planned_to c =
    let a = c.args in
    same_plan (asked a.text.now a.list.now a.window a.download a.table.now (plain a.index.now) a.fates.now a.confirmations.now) c.plan-planned.result
    c.plan-planned.new.table (plain c.plan-planned.new.index) c.plan-planned.new.fates c.plan-planned.new.cards (rw (to_z-of_z w64 a.window c.ranges.window) at c.plan-planned.ensures)
