use borrow.Author.Rules.{rules}
use native.Mathlib.Omega.{arith}
use Rattle.std.proofs.lemmas.Result.{err_from_is_err_and}
use Rattle.qsowriter.proofs.CheckLaws.{check_start, check_stop, check_on, check_few, check_end, few_in_the_way}
use Rattle.qsowriter.proofs.check_extra.Goals as goal

pub loop-i-init : goal.loop-i-init
loop-i-init c = (omega arith, omega arith, search rules, search check_start)

pub verdict_of-requires : goal.verdict_of-requires
verdict_of-requires c = (omega arith, search few_in_the_way)

pub returns-in_err-verdict_of : goal.returns-in_err-verdict_of
returns-in_err-verdict_of c =
    let p = err_from_is_err_and c.from_residual.result c.from_residual.ensures.1 in
    rw (p.1, p.2) (check_stop _ _ _ _ _ _ _ _ c.loop-i-test.true c.loop-i.invariant.0 c.loop-i.invariant.1 _ c.extra_at-row.ensures _ c.name_of.ensures _ c.is_taken-taken.ensures _ c.in_the_way.ensures _ c.verdict_of.ensures _ c.in_err-verdict_of.was c.loop-i.invariant.3)

pub with_row-c-requires : goal.with_row-c-requires
with_row-c-requires c = omega arith

pub loop-i-preserved : goal.loop-i-preserved
loop-i-preserved c = (omega arith, check_few _ _ c.args.table.now _ _ _ _ _ c.loop-i-test.true c.loop-i.invariant.0 c.loop-i.invariant.1 _ c.extra_at-row.ensures _ c.name_of.ensures _ c.is_taken-taken.ensures _ c.in_the_way.ensures _ c.verdict_of.ensures c.in_ok-verdict_of.was _ c.with_row-c.ensures, search rules, check_on _ _ _ _ _ _ _ _ c.loop-i-test.true c.loop-i.invariant.0 c.loop-i.invariant.1 _ c.extra_at-row.ensures _ c.name_of.ensures _ c.is_taken-taken.ensures _ c.in_the_way.ensures _ c.verdict_of.ensures c.in_ok-verdict_of.was _ c.with_row-c.ensures c.loop-i.invariant.3)

pub returns : goal.returns
returns c = search check_end
