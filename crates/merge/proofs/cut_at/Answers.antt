use borrow.Author.Rules.{rules}
use Rattle.merge.proofs.RowLaws.{name_fits, name_front, cut_start, cut_on, cut_same, cut_above, cut_end}
use Rattle.merge.proofs.cut_at.Goals as goal

pub shared_ref_as_front-name : goal.shared_ref_as_front-name
shared_ref_as_front-name c = search name_fits

pub loop-i-init : goal.loop-i-init
loop-i-init c = (search name_front, search cut_start)

pub loop-i-preserved : goal.loop-i-preserved
loop-i-preserved c = (search rules, search cut_on)

pub returns-then-is_same : goal.returns-then-is_same
returns-then-is_same c = search cut_same

pub returns-in-loop-i : goal.returns-in-loop-i
returns-in-loop-i c = search cut_above

pub returns : goal.returns
returns c = cut_end _ _ _ _ _ _ c.requires.0 (c.loop-i.auto.i-end c.requires.0) c.loop-i-test.false c.loop-i.invariant.1
