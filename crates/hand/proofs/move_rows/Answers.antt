use mathlib.Core.Path.{refl}
use native.Mathlib.Omega.{arith}
use Rattle.hand.proofs.TableLaws.{stored_more}
use Rattle.hand.proofs.move_rows.Goals as goal

pub loop-i-preserved : goal.loop-i-preserved
loop-i-preserved c = let l = c.loop-i in
    stored_more _ c.args.rows.now c.args.used _ _ _ _ _ _ c.loop-i-test.true c.requires.0 (omega (arith, l.auto.table)) refl l.invariant c.copy_from_slice.ensures.after
