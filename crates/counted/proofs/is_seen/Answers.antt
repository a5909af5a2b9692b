use Rattle.counted.proofs.WalkLaws.{walk_start, walk_in, walk_hit, walk_on, walk_less, walk_end, head_in, self_in}
use borrow.Author.Rules.{rules}
use Rattle.counted.proofs.is_seen.Goals as goal

pub offset_bounds-rows-k : goal.offset_bounds-rows-k
offset_bounds-rows-k c = search (rules, head_in, self_in, walk_in)

pub bounds-rows-k : goal.bounds-rows-k
bounds-rows-k c = search (rules, head_in, self_in, walk_in)

pub offset_bounds-rows-b : goal.offset_bounds-rows-b
offset_bounds-rows-b c = search (rules, head_in)

pub bounds-rows-b : goal.bounds-rows-b
bounds-rows-b c = search (rules, head_in, self_in)

pub loop-at-init : goal.loop-at-init
loop-at-init c = search (rules, walk_start)

pub overflow_sub-i : goal.overflow_sub-i
overflow_sub-i c = search (rules, head_in, self_in, walk_in)

pub offset_bounds-rows-i : goal.offset_bounds-rows-i
offset_bounds-rows-i c = search (rules, self_in, walk_in)

pub bounds-rows-i : goal.bounds-rows-i
bounds-rows-i c = search (rules, self_in, walk_in)

pub offset_bounds-rows-k-in-loop-at : goal.offset_bounds-rows-k-in-loop-at
offset_bounds-rows-k-in-loop-at c = search (rules, head_in, self_in, walk_in)

pub bounds-rows-k-in-loop-at : goal.bounds-rows-k-in-loop-at
bounds-rows-k-in-loop-at c = search (rules, head_in, self_in, walk_in)

pub returns-then-is_hit : goal.returns-then-is_hit
returns-then-is_hit c = search (rules, walk_hit)

pub offset_bounds-rows-i-in-loop-at : goal.offset_bounds-rows-i-in-loop-at
offset_bounds-rows-i-in-loop-at c = search (rules, self_in, walk_in)

pub bounds-rows-i-in-loop-at : goal.bounds-rows-i-in-loop-at
bounds-rows-i-in-loop-at c = search (rules, self_in, walk_in)

pub loop-at-smaller : goal.loop-at-smaller
loop-at-smaller c = search (rules, walk_less)

pub loop-at-preserved : goal.loop-at-preserved
loop-at-preserved c = search (rules, walk_on)

pub returns : goal.returns
returns c = search (rules, walk_end)
