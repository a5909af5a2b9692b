use Rattle.tables.specs.Table.{named, cut}
use Rattle.tables.proofs.TableLaws.{Named-from}
use Rattle.tables.proofs.named_in.Given as goal

abbrev pub invariant-loop-i : goal.invariant-loop-i
invariant-loop-i l = Named-from l.text l.names l.lens l.i (named l.text (cut l.names l.lens))
