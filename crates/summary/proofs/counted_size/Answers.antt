use Rattle.output.proofs.DigitLaws.{few_decimals}
use Rattle.summary.proofs.SizeLaws.{counted_is, named_short}
use native.Mathlib.Omega.{arith}
use Rattle.summary.proofs.counted_size.Goals as goal

pub overflow_add-result : goal.overflow_add-result
overflow_add-result c = omega (arith, few_decimals _ _ c.decimal_size.ensures, named_short _ _ _ _ c.decimal_size.ensures _ c.named.ensures c.requires.0 c.requires.1)

pub returns-clause-value : goal.returns-clause-value
returns-clause-value c = search counted_is

pub returns-clause-upper_bound : goal.returns-clause-upper_bound
returns-clause-upper_bound c = omega (arith, few_decimals _ _ c.decimal_size.ensures, named_short _ _ _ _ c.decimal_size.ensures _ c.named.ensures c.requires.0 c.requires.1)
