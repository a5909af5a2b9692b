use borrow.Author.Rules.{rules}
use Rattle.infile.proofs.WalkLaws.{walk_start, walk_in, walk_hit, walk_on, walk_less, walk_end, head_there, row_there}
use Rattle.infile.proofs.is_repeated.Goals as goal

pub offset_bounds-rows-k : goal.offset_bounds-rows-k
offset_bounds-rows-k c = search (rules, row_there)

pub bounds-rows-k : goal.bounds-rows-k
bounds-rows-k c = search (rules, row_there)

pub offset_bounds-rows-b : goal.offset_bounds-rows-b
offset_bounds-rows-b c = let h = head_there _ _ _ _ c.requires c.number_in.result in search rules

pub bounds-rows-b : goal.bounds-rows-b
bounds-rows-b c = head_there _ _ _ _ c.requires c.number_in.result

pub loop-at-init : goal.loop-at-init
loop-at-init c = search (rules, walk_start)

pub offset_bounds-rows-i : goal.offset_bounds-rows-i
offset_bounds-rows-i c = search (rules, walk_in)

pub bounds-rows-i : goal.bounds-rows-i
bounds-rows-i c = search (rules, walk_in)

pub offset_bounds-rows-k-in-loop-at : goal.offset_bounds-rows-k-in-loop-at
offset_bounds-rows-k-in-loop-at c = search (rules, row_there)

pub bounds-rows-k-in-loop-at : goal.bounds-rows-k-in-loop-at
bounds-rows-k-in-loop-at c = search (rules, row_there)

pub returns-then-is_alike : goal.returns-then-is_alike
returns-then-is_alike c = search (rules, walk_hit)

pub offset_bounds-rows-i-in-loop-at : goal.offset_bounds-rows-i-in-loop-at
offset_bounds-rows-i-in-loop-at c = search (rules, walk_in)

pub bounds-rows-i-in-loop-at : goal.bounds-rows-i-in-loop-at
bounds-rows-i-in-loop-at c = search (rules, walk_in)

pub loop-at-smaller : goal.loop-at-smaller
loop-at-smaller c = search (rules, walk_less)

pub loop-at-preserved : goal.loop-at-preserved
loop-at-preserved c = search (rules, walk_on)

pub returns : goal.returns
returns c = search (rules, walk_end)
