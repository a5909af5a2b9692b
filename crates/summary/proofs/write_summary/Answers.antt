use Rattle.summary.proofs.LineLaws.{short, short_out, line_room, written, written_out}
use Rattle.summary.proofs.write_summary.Goals as goal

pub returns-then-out-summary_size-clause-value : goal.returns-then-out-summary_size-clause-value
returns-then-out-summary_size-clause-value c = search short

pub returns-then-out-summary_size-clause-out_after : goal.returns-then-out-summary_size-clause-out_after
returns-then-out-summary_size-clause-out_after c = search short_out

pub put_summary-requires : goal.put_summary-requires
put_summary-requires c = search line_room

pub returns-clause-value : goal.returns-clause-value
returns-clause-value c = search written

pub returns-clause-out_after : goal.returns-clause-out_after
returns-clause-out_after c = search written_out
