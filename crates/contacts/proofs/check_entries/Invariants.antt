use Prim.Native.Nat.{◌≤◌}
use lib.ListN.{length}
use Rattle.contacts.proofs.ListLaws.{Entries}
use Rattle.contacts.proofs.check_entries.Given as goal

abbrev pub invariant-loop-k : goal.invariant-loop-k
invariant-loop-k l = (l.at ≤ length l.s) × Entries l.s l.count l.k l.at l.last
