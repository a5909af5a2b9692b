use borrow.Author.Rules.{rules}
use Rattle.mhz.proofs.WriteLaws.{left_start, left_on, left_end, room_last}
use Rattle.mhz.proofs.put_last.Goals as goal

pub loop-i-init : goal.loop-i-init
loop-i-init c = (search room_last, search rules, left_start _ _ _ _)

pub loop-i-preserved : goal.loop-i-preserved
loop-i-preserved c = (search rules, search rules, search left_on)

pub returns : goal.returns
returns c = search (rules, left_end)
