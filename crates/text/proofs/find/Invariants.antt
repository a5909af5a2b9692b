use mathlib.Core.Path.{◌≡◌}
use Rattle.text.specs.Walk.{ends}
use Rattle.text.specs.Find.{other}
use Rattle.text.proofs.find.Given as goal

abbrev pub invariant-loop-i : goal.invariant-loop-i
invariant-loop-i l = ends (other l.b) l.s l.i ≡ ends (other l.b) l.s l.from
