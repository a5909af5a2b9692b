use borrow.Author.Rules.{rules}
use Rattle.qsowriter.proofs.TakenLaws.{looking_start, looking_dropped, looking_found, looking_on, looking_end}
use Rattle.qsowriter.proofs.is_written.Goals as goal

pub loop-k-init : goal.loop-k-init
loop-k-init c = (search rules, search looking_start)

pub loop-k-preserved-then-is_dropped : goal.loop-k-preserved-then-is_dropped
loop-k-preserved-then-is_dropped c = (search rules, search looking_dropped)

pub returns-then-is_named : goal.returns-then-is_named
returns-then-is_named c = search looking_found

pub loop-k-preserved : goal.loop-k-preserved
loop-k-preserved c = (search rules, search looking_on)

pub returns : goal.returns
returns c = search looking_end
