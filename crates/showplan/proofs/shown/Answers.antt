use Rattle.std.proofs.Common.{◌≤◌, refl, arith}
use Rattle.showplan.specs.Printed.{records_in}
use Rattle.showplan.proofs.PrintedLaws.{too_long_put, too_long_size, few_records, planned_put}
use borrow.Author.Rules.{rules}
use Rattle.showplan.proofs.shown.Goals as goal

pub returns-then-text-gt-LONGEST-clause-put : goal.returns-then-text-gt-LONGEST-clause-put
returns-then-text-gt-LONGEST-clause-put c = search too_long_put

pub returns-then-text-gt-LONGEST-clause-upper_bound : goal.returns-then-text-gt-LONGEST-clause-upper_bound
returns-then-text-gt-LONGEST-clause-upper_bound c = search too_long_size

pub show_planned-requires : goal.show_planned-requires
show_planned-requires c =
    let few : records_in c.planned_in-plan.result ≤ 3000 = few_records _ _ _ _ _ _ c.planned_in-plan.ensures refl in
    (omega arith, omega arith, search rules)

pub returns-clause-put : goal.returns-clause-put
returns-clause-put c = planned_put _ _ _ _ _ _ c.planned_in-plan.ensures _ _ _ _ refl (omega arith) c.show_planned.ensures.put
