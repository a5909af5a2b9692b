use mathlib.Core.Path.{refl}
use Rattle.std.proofs.lemmas.Result.{err_from_is_err_and}
use Rattle.headers.proofs.AnswerLaws.{bad_text, unfit, room, done, done_out}
use Rattle.headers.proofs.write_export_header.Goals as goal

pub returns-then-not-are_utf8-clause-value : goal.returns-then-not-are_utf8-clause-value
returns-then-not-are_utf8-clause-value c = search bad_text

pub returns-then-not-are_utf8-clause-out_after : goal.returns-then-not-are_utf8-clause-out_after
returns-then-not-are_utf8-clause-out_after c = refl

pub put_export-requires : goal.put_export-requires
put_export-requires c = search (room, c.in_ok-fit.was)

pub returns-in_err-fit-clause-value : goal.returns-in_err-fit-clause-value
returns-in_err-fit-clause-value c =
    let p = err_from_is_err_and c.from_residual.result c.from_residual.ensures.1 in
    rw (p.1, p.2) (search (unfit, c.in_err-fit.was))

pub returns-in_err-fit-clause-out_after : goal.returns-in_err-fit-clause-out_after
returns-in_err-fit-clause-out_after c = let p = err_from_is_err_and c.from_residual.result c.from_residual.ensures.1 in rw p.1 refl

pub returns-clause-value : goal.returns-clause-value
returns-clause-value c = search (done, c.in_ok-fit.was)

pub returns-clause-out_after : goal.returns-clause-out_after
returns-clause-out_after c = search done_out
