use lib.ListN.{length}
use native.Mathlib.Omega.{arith}
use Rattle.output.proofs.DigitLaws.{decimal_few}
use Rattle.fields.proofs.FieldLaws.{field_size}
use Rattle.fields.proofs.field_size.Goals as goal

pub overflow_add-result-2 : goal.overflow_add-result-2
overflow_add-result-2 c = omega (arith, decimal_few (length c.args.value.now))

pub overflow_add-result-3 : goal.overflow_add-result-3
overflow_add-result-3 c = omega (arith, decimal_few (length c.args.value.now))

pub returns-clause-value : goal.returns-clause-value
returns-clause-value c = search field_size

pub returns-clause-upper_bound : goal.returns-clause-upper_bound
returns-clause-upper_bound c = omega (arith, decimal_few (length c.args.value.now))
