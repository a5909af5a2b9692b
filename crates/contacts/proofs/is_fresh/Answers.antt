use mathlib.Core.Path.{sym, ◌∙◌}
use mathlib.Core.Bool.{true, false}
use Rattle.std.proofs.lemmas.Result.{err_from_is_err_and}
use Rattle.contacts.proofs.ListLaws.{fresh_refused, fresh_is}
use Rattle.contacts.proofs.is_fresh.Goals as goal

pub returns-in_err-check : goal.returns-in_err-check
returns-in_err-check c = let p = err_from_is_err_and c.from_residual.result c.from_residual.ensures.1 in rw (p.1, p.2) (fresh_refused _ _ _ _ (sym c.check.ensures.value ∙ c.in_err-check.was))

pub returns-then-ne : goal.returns-then-ne
returns-then-ne c = fresh_is _ _ _ _ (sym c.check.ensures.value ∙ c.in_ok-check.was) true c.if-ne.ensures

pub returns : goal.returns
returns c = fresh_is _ _ _ _ (sym c.check.ensures.value ∙ c.in_ok-check.was) false c.if-ne.ensures
