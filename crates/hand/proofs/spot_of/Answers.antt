use mathlib.Core.Path.{◌≡◌}
use lib.ListN.{length}
use native.Mathlib.Omega.{arith}
use Rattle.hand.proofs.InsertLaws.{none_passed, found_later, found_below, found_same, found_above, found_end}
use borrow.Author.Rules.{rules}
use Rattle.hand.proofs.spot_of.Goals as goal

pub loop-i-init : goal.loop-i-init
loop-i-init c = search (rules, none_passed)

pub loop-i-preserved-then-raised_at-first : goal.loop-i-preserved-then-raised_at-first
loop-i-preserved-then-raised_at-first c = let inv = c.loop-i.invariant in
    (inv.0, found_later _ _ _ _ c.loop-i-test.true inv.1 (omega (arith, c.raised_at.ensures, inv.0, c.if-raised_at-first.true)))

pub returns-in-Less : goal.returns-in-Less
returns-in-Less c = found_below _ _ _ _ c.loop-i-test.true c.loop-i.invariant.1 c.in-Less.ensures

pub returns-in-Equal : goal.returns-in-Equal
returns-in-Equal c = found_same _ _ _ _ c.loop-i-test.true c.loop-i.invariant.1 c.in-Equal.ensures

pub loop-i-preserved : goal.loop-i-preserved
loop-i-preserved c = (c.loop-i.invariant.0, found_above _ _ _ _ c.loop-i-test.true c.loop-i.invariant.1 c.in-Greater.ensures)

pub returns : goal.returns
returns c = let e : c.loop-i.i ≡ length c.args.rows.now = omega arith in found_end _ _ _ (rw e at c.loop-i.invariant.1)
