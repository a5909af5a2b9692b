use Rattle.tags.proofs.TagLaws.{tag_eoh, tag_eor, tag_eof, tag_missing, tag_field, name_fits}
use lib.Seq.{length-take-le}
use borrow.Author.Rules.{rules}
use Rattle.tags.proofs.tag_of.Goals as goal

pub slice_bounds-w-end : goal.slice_bounds-w-end
slice_bounds-w-end c = search (rules, length-take-le)

pub slice_bounds-kind_of-end : goal.slice_bounds-kind_of-end
slice_bounds-kind_of-end c = search (rules, length-take-le)

pub overflow_add-a-2 : goal.overflow_add-a-2
overflow_add-a-2 c = search name_fits

pub returns-in-EndOfHeader : goal.returns-in-EndOfHeader
returns-in-EndOfHeader c = search tag_eoh

pub returns-in-EndOfRecord : goal.returns-in-EndOfRecord
returns-in-EndOfRecord c = search tag_eor

pub returns-in-EndOfFile : goal.returns-in-EndOfFile
returns-in-EndOfFile c = search tag_eof

pub returns-then-c-t : goal.returns-then-c-t
returns-then-c-t c = search tag_field

pub returns-else-c-t : goal.returns-else-c-t
returns-else-c-t c = search tag_missing
