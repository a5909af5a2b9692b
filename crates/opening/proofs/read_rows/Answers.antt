use Rattle.opening.proofs.OpenLaws.{read_refused, read_short, read_into, read_whole}
use borrow.Author.Rules.{rules}
use Rattle.std.proofs.lemmas.Result.{err_from_is_err_and}
use Rattle.opening.proofs.read_rows.Goals as goal

pub returns-then-fates-reading : goal.returns-then-fates-reading
returns-then-fates-reading c = let e = c.in_ok-reading.was in search (rules, read_short)

pub fill-requires : goal.fill-requires
fill-requires c = (search (rules, read_into), search rules)

pub returns-in_err-reading : goal.returns-in_err-reading
returns-in_err-reading c = let p = err_from_is_err_and c.from_residual.result c.from_residual.ensures.1 in let e = c.in_err-reading.was in rw (p.1, p.2) (search (rules, read_refused))

pub returns : goal.returns
returns c = let e = c.in_ok-reading.was in search (rules, read_whole)
