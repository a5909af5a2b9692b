use Prim.Native.Nat.{◌≤◌, ◌-◌, ◌*◌}
use mathlib.Core.Path.{◌≡◌}
use lib.ListN.{length}
use Rattle.reader.proofs.GoingLaws.{Going}
use Rattle.reader.proofs.read_tags.Given as goal

abbrev pub invariant-loop-reading : goal.invariant-loop-reading
invariant-loop-reading l =
    (length l.hand ≡ 256) × (l.so_far.held ≤ 256) × (5 * l.so_far.closed.rows ≤ length l.table)
    × Going l.text l.initial.table l.table l.hand l.so_far

abbrev pub decreases-loop-reading : goal.decreases-loop-reading
decreases-loop-reading l = length l.text - l.so_far.at
