use Rattle.tags.proofs.TagLaws.{kind_eoh, kind_eor, kind_eof, kind_field}
use Rattle.tags.proofs.kind_of.Goals as goal

pub returns-then-same_raised : goal.returns-then-same_raised
returns-then-same_raised c = search kind_eoh

pub returns-then-same_raised-2 : goal.returns-then-same_raised-2
returns-then-same_raised-2 c = search kind_eor

pub returns-then-same_raised-3 : goal.returns-then-same_raised-3
returns-then-same_raised-3 c = search kind_eof

pub returns : goal.returns
returns c = search kind_field
