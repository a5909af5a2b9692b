use mathlib.Core.Path.{◌≡◌}
use lib.ListN.{drop}
use Rattle.letters.specs.Same.{same}
use Rattle.dedupe.specs.Views.{cased}
use Rattle.dedupe.proofs.same_cased.Given as goal

abbrev pub invariant-loop-i : goal.invariant-loop-i
invariant-loop-i l = same (cased l.a_raised (drop l.i l.a)) (cased l.b_raised (drop l.i l.b)) ≡ same (cased l.a_raised l.a) (cased l.b_raised l.b)
