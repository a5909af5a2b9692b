use borrow.Author.Rules.{rules}
use native.Mathlib.Omega.{arith}
use Rattle.merge.proofs.MergeLaws.{merge_start, merge_skip, merge_rows, merge_column, merge_on, merge_last, merge_eor, merge_end}
use Rattle.merge.proofs.put_merged.Goals as goal

pub loop-k-init : goal.loop-k-init
loop-k-init c = (omega arith, search rules, search merge_start)

pub loop-k-preserved-then-is_dropped : goal.loop-k-preserved-then-is_dropped
loop-k-preserved-then-is_dropped c = (omega arith, search rules, search merge_skip)

pub put_rows-rows-requires : goal.put_rows-rows-requires
put_rows-rows-requires c = (search rules, omega arith, search merge_rows)

pub put_field-at-requires : goal.put_field-at-requires
put_field-at-requires c = (search rules, merge_column _ _ _ _ c.loop-k.invariant.1 _ c.loop-k-test.true _ _ c.is_dropped.ensures _ _ _ _ c.loop-k.invariant.2 c.if-is_dropped.false _ c.cut_at-cut.ensures _ _ c.put_rows-rows.ensures c.requires.2)

pub loop-k-preserved : goal.loop-k-preserved
loop-k-preserved c = (omega arith, search rules, search merge_on)

pub put_rows-rest-requires : goal.put_rows-rest-requires
put_rows-rest-requires c = (search rules, search rules, search merge_last)

pub put_bytes-requires : goal.put_bytes-requires
put_bytes-requires c = search merge_eor

pub returns : goal.returns
returns c = search merge_end
