use Rattle.listwriter.proofs.HeadingLaws.{front_all, front_length}
use native.Mathlib.Omega.{arith}
use borrow.Author.Rules.{rules}
use Rattle.listwriter.proofs.front.Goals as goal

pub returns-then-out-used : goal.returns-then-out-used
returns-then-out-used c = search (rules, front_all)

pub slice_bounds-result-end : goal.slice_bounds-result-end
slice_bounds-result-end c = front_length _ _ (omega arith)
