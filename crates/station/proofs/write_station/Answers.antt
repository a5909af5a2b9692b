use mathlib.Core.Path.{refl}
use Rattle.std.proofs.lemmas.Result.{err_from_is_err_and}
use Rattle.headers.proofs.AnswerLaws.{room, done_out}
use Rattle.station.proofs.AnswerLaws.{bad_text, long_text, unfit, done}
use Rattle.station.proofs.write_station.Goals as goal

pub returns-then-not-are_all_utf8-clause-value : goal.returns-then-not-are_all_utf8-clause-value
returns-then-not-are_all_utf8-clause-value c = search bad_text

pub returns-then-not-are_all_utf8-clause-out_after : goal.returns-then-not-are_all_utf8-clause-out_after
returns-then-not-are_all_utf8-clause-out_after c = refl

pub returns-then-not-are_all_short-clause-value : goal.returns-then-not-are_all_short-clause-value
returns-then-not-are_all_short-clause-value c = search long_text

pub returns-then-not-are_all_short-clause-out_after : goal.returns-then-not-are_all_short-clause-out_after
returns-then-not-are_all_short-clause-out_after c = refl

pub put_station-requires : goal.put_station-requires
put_station-requires c = room _ _ _ c.station_size.ensures _ c.fit.ensures _ c.in_ok-fit.was

pub returns-in_err-fit-clause-value : goal.returns-in_err-fit-clause-value
returns-in_err-fit-clause-value c =
    let p = err_from_is_err_and c.from_residual.result c.from_residual.ensures.1 in
    rw (p.1, p.2) (search (unfit, c.in_err-fit.was))

pub returns-in_err-fit-clause-out_after : goal.returns-in_err-fit-clause-out_after
returns-in_err-fit-clause-out_after c = let p = err_from_is_err_and c.from_residual.result c.from_residual.ensures.1 in rw p.1 refl

pub returns-clause-value : goal.returns-clause-value
returns-clause-value c = search (done, c.in_ok-fit.was)

pub returns-clause-out_after : goal.returns-clause-out_after
returns-clause-out_after c = search done_out
