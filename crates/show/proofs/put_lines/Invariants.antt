use mathlib.Core.Path.{◌≡◌}
use lib.ListN.{length}
use Rattle.output.specs.Put.{Put}
use Rattle.show.specs.Shown.{lines_of}
use Rattle.show.proofs.put_lines.Given as goal

abbrev pub invariant-loop-i : goal.invariant-loop-i
invariant-loop-i l = (length l.out ≡ length l.initial.out) × Put l.at l.initial.out l.out 0 (lines_of l.rows l.i)
