use native.Mathlib.Omega.{arith}
use Rattle.output.proofs.DigitLaws.{few_decimals}
use Rattle.cellfields.proofs.TextLaws.{minus_size, plain_size}
use Rattle.cellfields.proofs.number_size.Goals as goal

pub overflow_add-result : goal.overflow_add-result
overflow_add-result c = omega (arith, few_decimals _ _ c.decimal_size-digits.ensures)

pub returns-then-all-clause-value : goal.returns-then-all-clause-value
returns-then-all-clause-value c = search minus_size

pub returns-then-all-clause-upper_bound : goal.returns-then-all-clause-upper_bound
returns-then-all-clause-upper_bound c = omega (arith, few_decimals _ _ c.decimal_size-digits.ensures)

pub returns-clause-value : goal.returns-clause-value
returns-clause-value c = search plain_size

pub returns-clause-upper_bound : goal.returns-clause-upper_bound
returns-clause-upper_bound c = omega (arith, few_decimals _ _ c.decimal_size-digits.ensures)
