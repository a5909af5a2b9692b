use borrow.Author.Rules.{rules}
use Rattle.text.proofs.Walks.{here, out}
use Rattle.text.proofs.SpaceLaws.{is_here, goes_by}
use Rattle.text.proofs.find.Goals as goal

pub returns-then-s-i-clause-value : goal.returns-then-s-i-clause-value
returns-then-s-i-clause-value c = search (rules, here, is_here)

pub loop-i-preserved : goal.loop-i-preserved
loop-i-preserved c = search (rules, goes_by)

pub returns-clause-value : goal.returns-clause-value
returns-clause-value c = search (rules, out)
