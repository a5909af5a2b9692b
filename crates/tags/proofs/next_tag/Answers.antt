use Rattle.tags.proofs.TagLaws.{tag_past, tag_none, tag_open, tag_is}
use Rattle.tags.proofs.next_tag.Goals as goal

pub returns-then-s-at : goal.returns-then-s-at
returns-then-s-at c = search tag_past

pub returns-then-s-lt : goal.returns-then-s-lt
returns-then-s-lt c = search tag_none

pub returns-then-s-gt : goal.returns-then-s-gt
returns-then-s-gt c = search tag_open

pub returns : goal.returns
returns c = search tag_is
