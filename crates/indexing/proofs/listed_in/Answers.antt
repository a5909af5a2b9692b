use mathlib.Core.Path.{sym, ◌∙◌}
use Rattle.std.proofs.lemmas.Result.{err_from_is_err_and}
use Rattle.indexing.proofs.BuildLaws.{listed_refused, listed_short, listed_whole, few_marked}
use Rattle.indexing.proofs.listed_in.Goals as goal

pub returns-in_err-mark-clause-value : goal.returns-in_err-mark-clause-value
returns-in_err-mark-clause-value c = let p = err_from_is_err_and c.from_residual.result c.from_residual.ensures.1 in rw (p.1, p.2) (listed_refused _ _ _ (sym c.check.ensures.value ∙ c.in_err-mark.was))

pub returns-then-records-mark-clause-value : goal.returns-then-records-mark-clause-value
returns-then-records-mark-clause-value c = listed_short _ _ _ (sym c.check.ensures.value ∙ c.in_ok-mark.was) c.if-records-mark.true

pub returns-clause-value : goal.returns-clause-value
returns-clause-value c = listed_whole _ _ _ (sym c.check.ensures.value ∙ c.in_ok-mark.was) c.if-records-mark.false

pub returns-clause-few : goal.returns-clause-few
returns-clause-few c = few_marked _ _ c.check.ensures.few c.in_ok-mark.was
