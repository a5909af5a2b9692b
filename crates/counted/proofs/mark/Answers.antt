use Rattle.counted.proofs.MarkLaws.{mark_is, bucket_in}
use borrow.Author.Rules.{rules}
use Rattle.counted.proofs.mark.Goals as goal

pub offset_bounds-rows-b : goal.offset_bounds-rows-b
offset_bounds-rows-b c = search (rules, bucket_in)

pub slice_copy_out-head_in : goal.slice_copy_out-head_in
slice_copy_out-head_in c = search (rules, bucket_in)

pub offset_bounds-rows-b-2 : goal.offset_bounds-rows-b-2
offset_bounds-rows-b-2 c = search (rules, bucket_in)

pub slice_copy_out-with_head : goal.slice_copy_out-with_head
slice_copy_out-with_head c = search (rules, bucket_in)

pub offset_bounds-rows-b-3 : goal.offset_bounds-rows-b-3
offset_bounds-rows-b-3 c = search (rules, bucket_in)

pub bounds-rows-b : goal.bounds-rows-b
bounds-rows-b c = search (rules, bucket_in)

pub returns : goal.returns
returns c = search (rules, mark_is)
