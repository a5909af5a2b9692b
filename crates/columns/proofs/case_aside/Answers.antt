use native.Mathlib.Omega.{arith}
use Rattle.columns.proofs.ColumnLaws.{no_such_length, raised_is_lem}
use Rattle.columns.proofs.case_aside.Goals as goal

pub returns-in-4 : goal.returns-in-4
returns-in-4 c = search raised_is_lem

pub returns-in_default : goal.returns-in_default
returns-in_default c = no_such_length c.args.name.now (λ e. grind (arith, c.in_default)) (λ e. grind (arith, c.in_default)) (λ e. grind (arith, c.in_default)) (λ e. grind (arith, c.in_default))

pub returns-in_default-2 : goal.returns-in_default-2
returns-in_default-2 c = no_such_length c.args.name.now (λ e. grind (arith, c.in_default)) (λ e. grind (arith, c.in_default)) (λ e. grind (arith, c.in_default)) (λ e. grind (arith, c.in_default))
