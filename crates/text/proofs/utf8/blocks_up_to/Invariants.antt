use mathlib.Core.Path.{◌≡◌}
use Prim.Native.Nat.{◌≤◌, ◌-◌}
use lib.ListN.{length}
use Rattle.text.specs.Walk.{ends}
use Rattle.text.specs.Utf8.{char_len, valid_up_to}
use Rattle.text.proofs.utf8.blocks_up_to.Given as goal

abbrev pub invariant-loop-i : goal.invariant-loop-i
invariant-loop-i l = (l.i ≤ length l.s) × (ends char_len l.s l.i ≡ valid_up_to l.s)

abbrev pub decreases-loop-i : goal.decreases-loop-i
decreases-loop-i l = length l.s - l.i
