use native.Mathlib.Omega.{arith}
use Rattle.mhz.proofs.PartLaws.{point_fits, mantissa_after, mantissa_held, mantissa_fraction, mantissa_count}
use borrow.Author.Rules.{rules}
use Rattle.mhz.proofs.number.mantissa_from.Goals as goal

pub overflow_add-from : goal.overflow_add-from
overflow_add-from c = omega (arith, point_fits c.args.s.now c.digits_from-whole.result.at c.byte.result c.one_if.result c.digits_from-whole.ensures.from_le_at.1 c.byte.ensures c.one_if.ensures)

pub digits_from-rest-requires : goal.digits_from-rest-requires
digits_from-rest-requires c = (search point_fits, search rules)

pub returns-clause-s_value : goal.returns-clause-s_value
returns-clause-s_value c = search mantissa_after

pub returns-clause-held_value : goal.returns-clause-held_value
returns-clause-held_value c = search mantissa_held

pub returns-clause-fraction_value : goal.returns-clause-fraction_value
returns-clause-fraction_value c = search mantissa_fraction

pub returns-clause-count_value : goal.returns-clause-count_value
returns-clause-count_value c = search mantissa_count
