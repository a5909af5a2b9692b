use Rattle.std.proofs.lemmas.Result.{err_from_is_err_and}
use Rattle.listwriter.proofs.AppendLaws.{too_long, too_long_out, unheaded, unheaded_out, from_five, not_long, can_grow, appended, appended_out}
use borrow.Author.Rules.{rules}
use Rattle.listwriter.proofs.append.Goals as goal

pub returns-then-any-clause-value : goal.returns-then-any-clause-value
returns-then-any-clause-value c = search (rules, too_long)

pub returns-then-any-clause-out_after : goal.returns-then-any-clause-out_after
returns-then-any-clause-out_after c = search (rules, too_long_out)

pub returns-in_err-heading_in-clause-value : goal.returns-in_err-heading_in-clause-value
returns-in_err-heading_in-clause-value c =
    let p = err_from_is_err_and c.from_residual.result c.from_residual.ensures.1 in
    rw (p.1, p.2) (unheaded _ _ _ _ _ _ _ _ _ _ _ _ _ c.are_long.ensures c.any.ensures c.if-any.false _ c.heading_in.ensures _ c.in_err-heading_in.was)

pub returns-in_err-heading_in-clause-out_after : goal.returns-in_err-heading_in-clause-out_after
returns-in_err-heading_in-clause-out_after c =
    unheaded_out _ _ _ _ _ _ _ _ _ _ _ _ _ c.are_long.ensures c.any.ensures c.if-any.false _ c.heading_in.ensures _ c.in_err-heading_in.was

pub enter-requires : goal.enter-requires
enter-requires c = (
  from_five _ _ _ _ c.heading_in.ensures c.in_ok-heading_in.was,
  search not_long,
  can_grow _ _ _ c.heading_in.ensures c.in_ok-heading_in.was,
)

pub returns-clause-value : goal.returns-clause-value
returns-clause-value c =
    appended _ _ _ _ _ _ _ _ _ _ _ _ _ c.are_long.ensures c.any.ensures c.if-any.false _ c.heading_in.ensures c.in_ok-heading_in.was _ _ c.enter.ensures

pub returns-clause-out_after : goal.returns-clause-out_after
returns-clause-out_after c =
    appended_out _ _ _ _ _ _ _ _ _ _ _ _ _ c.are_long.ensures c.any.ensures c.if-any.false _ c.heading_in.ensures c.in_ok-heading_in.was _ _ c.enter.ensures
