use lib.Seq.{length-take-le}
use mathlib.Core.Path.{sym}
use Rattle.std.proofs.lemmas.Result.{err_from_is_err_and}
use Rattle.roundtrip.proofs.Carried.{in_output, back_is, back_table, back_says, not_is, not_table, not_says}
use Rattle.roundtrip.proofs.write_and_read.Goals as goal

pub returns-in_err-n-clause-value : goal.returns-in_err-n-clause-value
returns-in_err-n-clause-value c =
    let p = err_from_is_err_and c.from_residual.result c.from_residual.ensures.1 in
    rw (p.1, p.2) (not_is _ _ _ _ _ c.write.ensures.value _ c.in_err-n.was _)

pub returns-in_err-n-clause-table_after : goal.returns-in_err-n-clause-table_after
returns-in_err-n-clause-table_after c = not_table _ _ _ _ _ c.write.ensures.value _ c.in_err-n.was _

pub returns-in_err-n-clause-says_same : goal.returns-in_err-n-clause-says_same
returns-in_err-n-clause-says_same c = not_says _ _ _ _ _ c.write.ensures.value _ c.in_err-n.was _ _ _

pub slice_bounds-read-end : goal.slice_bounds-read-end
slice_bounds-read-end c = in_output _ _ _ _ _ _ c.write.ensures.value c.write.ensures.out_after _ c.in_ok-n.was

pub slice_bounds-read-end-2 : goal.slice_bounds-read-end-2
slice_bounds-read-end-2 c = sym (length-take-le _ _ (in_output _ _ _ _ _ _ c.write.ensures.value c.write.ensures.out_after _ c.in_ok-n.was))

pub returns-clause-value : goal.returns-clause-value
returns-clause-value c =
    back_is _ _ _ _ _ _ c.write.ensures.value c.write.ensures.out_after _ c.in_ok-n.was _ _ _ c.read.ensures.value c.read.ensures.table_after

pub returns-clause-table_after : goal.returns-clause-table_after
returns-clause-table_after c =
    back_table _ _ _ _ _ _ c.write.ensures.value c.write.ensures.out_after _ c.in_ok-n.was _ _ _ c.read.ensures.value c.read.ensures.table_after

pub returns-clause-says_same : goal.returns-clause-says_same
returns-clause-says_same c =
    back_says _ _ _ _ _ _ c.write.ensures.value c.write.ensures.out_after _ c.in_ok-n.was _ _ _ c.read.ensures.value c.read.ensures.table_after
