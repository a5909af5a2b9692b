use Rattle.mapping.proofs.AnswerLaws.{too_long, past, no_record, a_record}
use native.Mathlib.Omega.{arith}
use Rattle.mapping.proofs.record_to_qso.Goals.{then-rows-first-via-then-rows-first, then-rows-first-via-else-rows-first+then-rows-first-2}
use Rattle.mapping.proofs.record_to_qso.Goals as goal

pub returns-then-text-gt-LONGEST : goal.returns-then-text-gt-LONGEST
returns-then-text-gt-LONGEST c = search too_long

pub returns-then-rows-first : goal.returns-then-rows-first
returns-then-rows-first c =
    past _ _ _ _ _ _ c.empty-then-rows-first.ensures (omega arith) c.refused-then-rows-first.ensures
    (elim c.then-rows-first.branch [
      | then-rows-first-via-then-rows-first w ↦ omega (arith, w.if-rows-first.true)
      | then-rows-first-via-else-rows-first+then-rows-first-2 w ↦ omega (arith, w.if-rows-first.false, w.if-rows-first-2.true)
    ])

pub returns-then-not-is_record : goal.returns-then-not-is_record
returns-then-not-is_record c = search no_record

pub returns : goal.returns
returns c = search a_record
