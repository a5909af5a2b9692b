use native.Mathlib.Omega.{arith}
use Rattle.output.proofs.DigitLaws.{few_decimals}
use Rattle.cellfields.proofs.TextLaws.{field_long}
use Rattle.cellfields.proofs.NameLaws.{short_name}
use Rattle.cellfields.proofs.field_size.Goals as goal

pub overflow_add-result : goal.overflow_add-result
overflow_add-result c = omega (arith, short_name _ _ c.column_name-name.ensures)

pub overflow_add-result-2 : goal.overflow_add-result-2
overflow_add-result-2 c = omega (arith, short_name _ _ c.column_name-name.ensures, few_decimals _ _ c.decimal_size.ensures)

pub overflow_add-result-3 : goal.overflow_add-result-3
overflow_add-result-3 c = omega (arith, short_name _ _ c.column_name-name.ensures, few_decimals _ _ c.decimal_size.ensures)

pub returns-clause-value : goal.returns-clause-value
returns-clause-value c = search field_long

pub returns-clause-upper_bound : goal.returns-clause-upper_bound
returns-clause-upper_bound c = omega (arith, short_name _ _ c.column_name-name.ensures, few_decimals _ _ c.decimal_size.ensures)
