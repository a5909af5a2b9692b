use native.Mathlib.Nat.{zero-add}
use borrow.Author.Rules.{rules}
use Rattle.text.specs.Walk.{ends}
use Rattle.text.specs.Space.{space_ahead}
use Rattle.text.proofs.Walks.{here, on, out}
use Rattle.text.proofs.SpaceLaws.{length-end}
use Rattle.text.proofs.space.spaces.Goals as goal

pub loop-i-init : goal.loop-i-init
unfolding ends
loop-i-init c = (search rules, simp zero-add)

pub returns-then-w-eq0-clause-value : goal.returns-then-w-eq0-clause-value
returns-then-w-eq0-clause-value c = search (rules, here (space_ahead c.args.back))

pub loop-i-preserved : goal.loop-i-preserved
loop-i-preserved c = search (rules, on (space_ahead c.args.back), length-end c.args.back c.args.s.now)

pub returns-clause-value : goal.returns-clause-value
returns-clause-value c = search (rules, out (space_ahead c.args.back), length-end c.args.back c.args.s.now)
