use Rattle.mapping.proofs.RowLaws.{no_row, bad_first, good_first, bad_next, good_next, whole_record}
use Rattle.mapping.proofs.is_record.Goals as goal

pub returns-then-count-eq0 : goal.returns-then-count-eq0
returns-then-count-eq0 c = search no_row

pub returns-then-not-starts_record : goal.returns-then-not-starts_record
returns-then-not-starts_record c = search bad_first

pub loop-i-init : goal.loop-i-init
loop-i-init c = search good_first

pub returns-then-not-continues_record : goal.returns-then-not-continues_record
returns-then-not-continues_record c = search bad_next

pub loop-i-preserved : goal.loop-i-preserved
loop-i-preserved c = search good_next

pub returns : goal.returns
returns c = search whole_record
