use native.Mathlib.Omega.{arith}
use Prim.Native.Nat.{◌-◌, ◌/◌}
use Rattle.output.proofs.DigitLaws.{count_none, count_one, count_more, few_digits}
use Rattle.output.proofs.+digit_count.Goals as goal

pub returns-then-k-eq0 : goal.returns-then-k-eq0
returns-then-k-eq0 t c = search count_none

pub returns-then-n-lt10 : goal.returns-then-n-lt10
returns-then-n-lt10 t c = search count_one

pub overflow_add-result : goal.overflow_add-result
overflow_add-result t c = omega (arith, few_digits (c.args.k - 1) (c.args.n / 10))

pub returns : goal.returns
returns t c = search count_more
