use mathlib.Core.Path.{◌≡◌}
use mathlib.Core.List.{reverse}
use Prim.Native.Nat.{◌≤◌, ◌-◌}
use lib.ListN.{length}
use Rattle.text.specs.Pick.{pick}
use Rattle.text.specs.Walk.{ends, lead}
use Rattle.text.specs.Space.{space_ahead}
use Rattle.text.proofs.space.spaces.Given as goal

abbrev pub invariant-loop-i : goal.invariant-loop-i
invariant-loop-i l =
    (l.i ≤ length l.s) × (ends (space_ahead l.back) (pick l.back (reverse l.s) l.s) l.i ≡ lead (space_ahead l.back) (pick l.back (reverse l.s) l.s))

abbrev pub decreases-loop-i : goal.decreases-loop-i
decreases-loop-i l = length l.s - l.i
