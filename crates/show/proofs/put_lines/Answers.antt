use mathlib.Core.Path.{refl}
use mathlib.Core.List.{[]}
use native.Mathlib.Omega.{arith}
use lib.Seq.{length-take-le}
use Rattle.std.proofs.lemmas.List.{get_or-take}
use Rattle.show.proofs.LineLaws.{lines_start, lines_room, lines_on}
use Rattle.show.proofs.put_lines.Goals as goal

pub loop-i-init : goal.loop-i-init
loop-i-init c = (refl, search lines_start)

pub put_row-at-requires : goal.put_row-at-requires
put_row-at-requires c = lines_room _ _ _ _ _ c.args.n c.loop-i.invariant.1 (omega (arith, length-take-le c.args.n c.args.rows.now (omega arith))) (omega arith) (omega arith) _ _ _

pub loop-i-preserved : goal.loop-i-preserved
loop-i-preserved c =
    (omega arith, lines_on _ _ _ _ _ c.args.n c.loop-i.invariant.1 _ (get_or-take c.args.n c.args.rows.now c.loop-i.i [] (omega (arith, length-take-le c.args.n c.args.rows.now (omega arith)))) _ _ c.put_row-at.ensures)
