use mathlib.Core.Path.{refl}
use native.Mathlib.Omega.{arith}
use Rattle.contacts.specs.Lists.{number_at}
use Rattle.contacts.proofs.EntryLaws.{number_on, number_below, number_fits}
use Rattle.contacts.proofs.number_at.Goals as goal

pub loop-i-init : goal.loop-i-init
unfolding number_at
loop-i-init c = (refl, omega arith)

pub loop-i-preserved : goal.loop-i-preserved
loop-i-preserved c =
    let q = c.loop-i.invariant in (
      number_on c.args.s.now c.args.at c.loop-i.i c.loop-i.n c.byte.result q.0 c.byte.ensures,
      number_below c.loop-i.n c.byte.result c.loop-i.i q.1 c.byte.type_inv,
    )

pub overflow_mul-n : goal.overflow_mul-n
overflow_mul-n c = omega (arith, number_fits c.loop-i.n 0 c.loop-i.i c.args.k c.loop-i.invariant.1 (omega arith) c.loop-i-test.true c.requires.1)

pub overflow_add-n : goal.overflow_add-n
overflow_add-n c = omega (arith, number_fits c.loop-i.n c.byte.result c.loop-i.i c.args.k c.loop-i.invariant.1 c.byte.type_inv c.loop-i-test.true c.requires.1)
