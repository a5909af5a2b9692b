use Rattle.std.proofs.lemmas.Result.{err_from_is_err_and}
use Rattle.lookup.proofs.LookLaws.{asked_refused, asked_marked}
use Rattle.lookup.proofs.asked_of.Goals as goal

pub returns-in_err-built : goal.returns-in_err-built
returns-in_err-built c = let p = err_from_is_err_and c.from_residual.result c.from_residual.ensures.1 in rw (p.1, p.2) (asked_refused _ _ _ _ c.in_err-built.was)

pub returns : goal.returns
returns c = asked_marked _ _ _ _ c.in_ok-built.was _ c.listed_in.ensures.value
