use mathlib.Core.Path.{refl}
use Rattle.std.proofs.lemmas.Result.{err_from_is_err_and}
use Rattle.headers.proofs.AnswerLaws.{journal_not, journal_room, journal_done, done_out}
use Rattle.headers.proofs.write_journal_header.Goals as goal

pub put_bytes-requires : goal.put_bytes-requires
put_bytes-requires c = search (journal_room, c.in_ok-fit.was)

pub returns-in_err-fit-clause-value : goal.returns-in_err-fit-clause-value
returns-in_err-fit-clause-value c =
    let p = err_from_is_err_and c.from_residual.result c.from_residual.ensures.1 in
    rw (p.1, p.2) (search (journal_not, c.in_err-fit.was))

pub returns-in_err-fit-clause-out_after : goal.returns-in_err-fit-clause-out_after
returns-in_err-fit-clause-out_after c = let p = err_from_is_err_and c.from_residual.result c.from_residual.ensures.1 in rw p.1 refl

pub returns-clause-value : goal.returns-clause-value
returns-clause-value c = search (journal_done, c.in_ok-fit.was)

pub returns-clause-out_after : goal.returns-clause-out_after
returns-clause-out_after c = search done_out
