use native.Mathlib.Omega.{arith}
use Rattle.std.proofs.lemmas.Result.{err_from_is_err_and}
use Rattle.rowcheck.proofs.FineLaws.{tally_start}
use Rattle.writer.proofs.CheckLaws.{check_start, check_stop, check_record, check_names, check_tally, check_few, check_on, check_end}
use Rattle.writer.proofs.check_rows.Goals as goal

pub loop-i-init : goal.loop-i-init
loop-i-init c = (omega arith, omega arith, omega arith, omega arith, tally_start _ _, check_start _ _ _)

pub returns-in_err-verdict_of : goal.returns-in_err-verdict_of
returns-in_err-verdict_of c =
    let p = err_from_is_err_and c.from_residual.result c.from_residual.ensures.1 in
    rw (p.1, p.2) (check_stop _ _ _ _ _ _ _ _ c.loop-i-test.true _ c.row_at-row.ensures _ c.in_err-verdict_of.ensures c.loop-i.invariant.5)

pub loop-i-preserved : goal.loop-i-preserved
loop-i-preserved c = let e = c.in_ok-verdict_of.ensures in
    (search (check_record, e), search (check_names, e), search (check_few, e), omega arith, search (check_tally, e), search (check_on, e))

pub returns : goal.returns
returns c = search check_end
