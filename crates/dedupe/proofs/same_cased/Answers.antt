use Rattle.dedupe.proofs.KeyLaws.{cased_differ, cased_apart, cased_agree, cased_ended}
use Rattle.dedupe.proofs.same_cased.Goals as goal

pub returns-then-a-b : goal.returns-then-a-b
returns-then-a-b c = search cased_differ

pub returns-then-case_of : goal.returns-then-case_of
returns-then-case_of c = search cased_apart

pub loop-i-preserved : goal.loop-i-preserved
loop-i-preserved c = cased_agree _ _ _ _ _ _ c.loop-i.invariant _ _ c.loop-i-test.true c.if-a-b.false c.case_of.ensures c.case_of-in-loop-i.ensures c.if-case_of.false

pub returns : goal.returns
returns c = search cased_ended
