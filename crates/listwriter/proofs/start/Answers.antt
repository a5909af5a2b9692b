use Rattle.listwriter.proofs.AppendLaws.{start_short, start_short_out, start_room, start_done, start_done_out}
use borrow.Author.Rules.{rules}
use Rattle.listwriter.proofs.start.Goals as goal

pub returns-then-out-lt-ENTRIES-clause-value : goal.returns-then-out-lt-ENTRIES-clause-value
returns-then-out-lt-ENTRIES-clause-value c = search (rules, start_short)

pub returns-then-out-lt-ENTRIES-clause-out_after : goal.returns-then-out-lt-ENTRIES-clause-out_after
returns-then-out-lt-ENTRIES-clause-out_after c = search (rules, start_short_out)

pub put_bytes-requires : goal.put_bytes-requires
put_bytes-requires c = search (rules, start_room)

pub returns-clause-value : goal.returns-clause-value
returns-clause-value c = search (rules, start_done)

pub returns-clause-out_after : goal.returns-clause-out_after
returns-clause-out_after c = search (rules, start_done_out)
