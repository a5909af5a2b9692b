use mathlib.Core.Path.{◌≡◌}
use native.Mathlib.Omega.{arith}
use lib.ListN.{length}
use Rattle.output.proofs.PutLaws.{half_start}
use Rattle.fields.proofs.FieldLaws.{room_raised, raised_on, raised_end}
use Rattle.fields.proofs.put_raised.Goals as goal

pub loop-i-init : goal.loop-i-init
loop-i-init c = (search room_raised, half_start _ _ _)

pub loop-i-preserved : goal.loop-i-preserved
loop-i-preserved c = (omega arith, search raised_on)

pub returns : goal.returns
returns c = let e : c.loop-i.i ≡ length c.args.src.now = omega arith in raised_end _ _ _ _ (rw e at c.loop-i.invariant.1)
