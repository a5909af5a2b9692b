use native.Mathlib.Omega.{arith}
use lib.ListN.{length}
use Prim.Native.Nat.{◌<◌, ◌≤◌}
use Rattle.hand.proofs.InsertLaws.{below_rows, within_used, replaced, full, shifted}
use borrow.Author.Rules.{rules}
use Rattle.hand.proofs.with_field.Goals as goal

pub offset_bounds-rows-at : goal.offset_bounds-rows-at
offset_bounds-rows-at c = let a = c.args in let h : c.in-Ok.at < length a.rows.now = below_rows a.text.now a.rows.now a.used a.row _ c.part-name.ensures (omega arith) _ c.in-Ok.ensures in search rules

pub bounds-rows-at : goal.bounds-rows-at
bounds-rows-at c = let a = c.args in below_rows a.text.now a.rows.now a.used a.row _ c.part-name.ensures (omega arith) _ c.in-Ok.ensures

pub returns-in-Ok : goal.returns-in-Ok
returns-in-Ok c = let a = c.args in replaced a.text.now a.rows.now a.used a.row _ c.part-name.ensures (omega arith) _ c.in-Ok.ensures

pub returns-then-used-rows : goal.returns-then-used-rows
returns-then-used-rows c = let a = c.args in full a.text.now a.rows.now a.used a.row _ c.part-name.ensures (omega arith) _ c.in-Err.ensures c.if-used-rows.true

pub overflow_add-at : goal.overflow_add-at
overflow_add-at c = let a = c.args in let h : c.in-Err.at ≤ a.used = within_used a.text.now a.rows.now a.used a.row _ c.part-name.ensures (omega arith) _ c.in-Err.ensures in search rules

pub copy_within-requires-clause-start_le_end : goal.copy_within-requires-clause-start_le_end
copy_within-requires-clause-start_le_end c = let a = c.args in within_used a.text.now a.rows.now a.used a.row _ c.part-name.ensures (omega arith) _ c.in-Err.ensures

pub copy_within-requires-clause-dest_in_bounds : goal.copy_within-requires-clause-dest_in_bounds
copy_within-requires-clause-dest_in_bounds c = let a = c.args in let h : c.in-Err.at ≤ a.used = within_used a.text.now a.rows.now a.used a.row _ c.part-name.ensures (omega arith) _ c.in-Err.ensures in omega arith

pub offset_bounds-rows-at-in-Err : goal.offset_bounds-rows-at-in-Err
offset_bounds-rows-at-in-Err c = let a = c.args in let h : c.in-Err.at ≤ a.used = within_used a.text.now a.rows.now a.used a.row _ c.part-name.ensures (omega arith) _ c.in-Err.ensures in search rules

pub bounds-rows-at-in-Err : goal.bounds-rows-at-in-Err
bounds-rows-at-in-Err c = let a = c.args in let h : c.in-Err.at ≤ a.used = within_used a.text.now a.rows.now a.used a.row _ c.part-name.ensures (omega arith) _ c.in-Err.ensures in omega arith

pub returns-else-used-rows : goal.returns-else-used-rows
returns-else-used-rows c = let a = c.args in shifted a.text.now a.rows.now a.used a.row _ c.part-name.ensures (omega arith) _ c.in-Err.ensures c.if-used-rows.false _ c.copy_within.ensures.after c.copy_within.ensures.len
