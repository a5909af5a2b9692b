use Rattle.std.proofs.lemmas.Result.{err_from_is_err_and}
use Rattle.writer.proofs.AnswerLaws.{long_text, long_text_out, many_rows, many_rows_out, in_table, unfit, unfit_out, room, done, done_out}
use Rattle.writer.proofs.write.Goals as goal

pub returns-then-text-gt-LONGEST-clause-value : goal.returns-then-text-gt-LONGEST-clause-value
returns-then-text-gt-LONGEST-clause-value c = search long_text

pub returns-then-text-gt-LONGEST-clause-out_after : goal.returns-then-text-gt-LONGEST-clause-out_after
returns-then-text-gt-LONGEST-clause-out_after c = search long_text_out

pub returns-then-table-count-clause-value : goal.returns-then-table-count-clause-value
returns-then-table-count-clause-value c = search many_rows

pub returns-then-table-count-clause-out_after : goal.returns-then-table-count-clause-out_after
returns-then-table-count-clause-out_after c = search many_rows_out

pub returns-in_err-fit-clause-value : goal.returns-in_err-fit-clause-value
returns-in_err-fit-clause-value c =
    let p = err_from_is_err_and c.from_residual.result c.from_residual.ensures.1 in
    rw (p.1, p.2) (unfit _ _ _ _ c.if-text-gt-LONGEST.false c.if-table-count.false _ c.check_rows.ensures _ c.fit.ensures _ c.in_err-fit.was)

pub returns-in_err-fit-clause-out_after : goal.returns-in_err-fit-clause-out_after
returns-in_err-fit-clause-out_after c =
    unfit_out _ _ _ _ c.if-text-gt-LONGEST.false c.if-table-count.false _ c.check_rows.ensures _ c.fit.ensures _ c.in_err-fit.was

pub put_rows-requires : goal.put_rows-requires
put_rows-requires c = (
  search in_table,
  room _ _ _ _ c.if-text-gt-LONGEST.false c.if-table-count.false _ c.check_rows.ensures _ c.fit.ensures _ c.in_ok-fit.was,
)

pub returns-clause-value : goal.returns-clause-value
returns-clause-value c =
    done _ _ _ _ c.if-text-gt-LONGEST.false c.if-table-count.false _ c.check_rows.ensures _ c.fit.ensures _ c.in_ok-fit.was _ _ c.put_rows.ensures

pub returns-clause-out_after : goal.returns-clause-out_after
returns-clause-out_after c =
    done_out _ _ _ _ c.if-text-gt-LONGEST.false c.if-table-count.false _ c.check_rows.ensures _ c.fit.ensures _ c.in_ok-fit.was _ _ c.put_rows.ensures
