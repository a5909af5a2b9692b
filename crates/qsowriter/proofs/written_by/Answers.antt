use Rattle.std.proofs.lemmas.Result.{err_from_is_err_and}
use Rattle.qsowriter.proofs.AnswerLaws.{fit_short, fit_rows, fit_room, unfit, unfit_out, done, done_out}
use Rattle.qsowriter.proofs.written_by.Goals as goal

pub returns-in_err-fit-clause-value : goal.returns-in_err-fit-clause-value
returns-in_err-fit-clause-value c =
    let p = err_from_is_err_and c.from_residual.result c.from_residual.ensures.1 in
    rw (p.1, p.2) (unfit _ _ _ _ _ _ c.cells_of-cells.ensures _ c.measured.ensures _ c.fit.ensures _ c.in_err-fit.was)

pub returns-in_err-fit-clause-out_after : goal.returns-in_err-fit-clause-out_after
returns-in_err-fit-clause-out_after c = unfit_out _ _ _ _ _ _ c.cells_of-cells.ensures _ c.measured.ensures _ c.fit.ensures _ c.in_err-fit.was

pub put_merged-requires : goal.put_merged-requires
put_merged-requires c = (
  fit_short _ _ _ _ _ _ c.cells_of-cells.ensures _ c.measured.ensures _ c.fit.ensures _ c.in_ok-fit.was,
  fit_rows _ _ _ _ _ _ c.cells_of-cells.ensures _ c.measured.ensures _ c.fit.ensures _ c.in_ok-fit.was,
  fit_room _ _ _ _ _ _ c.cells_of-cells.ensures _ c.measured.ensures _ c.fit.ensures _ c.in_ok-fit.was,
)

pub returns-clause-value : goal.returns-clause-value
returns-clause-value c = done _ _ _ _ _ _ c.cells_of-cells.ensures _ c.measured.ensures _ c.fit.ensures _ c.in_ok-fit.was _ _ c.put_merged.ensures

pub returns-clause-out_after : goal.returns-clause-out_after
returns-clause-out_after c = done_out _ _ _ _ _ _ c.cells_of-cells.ensures _ c.measured.ensures _ c.fit.ensures _ c.in_ok-fit.was _ _ c.put_merged.ensures
