use Rattle.dedupe.proofs.ViewLaws.{name_short}
use Rattle.entries.proofs.JudgeLaws.{judged_is, judged_texts}
use Rattle.entries.proofs.judge.Goals as goal

pub shared_ref_as_front-shown : goal.shared_ref_as_front-shown
shared_ref_as_front-shown c = search name_short

pub shared_ref_as_front-shown-2 : goal.shared_ref_as_front-shown-2
shared_ref_as_front-shown-2 c = search name_short

pub shared_ref_as_front-shown-3 : goal.shared_ref_as_front-shown-3
shared_ref_as_front-shown-3 c = search name_short

pub returns : goal.returns
returns c = judged_is _ _ _ _ _ _ _ _ _ _ _ c.name_of-called.ensures c.name_of-name.ensures c.name_of-other.ensures
    (judged_texts _ _ _ _ _ _ _ _ _ _ _ _ _ _ _ _ _
    c.shown-c.ensures
    c.shown-m.ensures
    c.shown-b.ensures
    c.trim.ensures
    c.trim-2.ensures
    c.trim-3.ensures
    c.code_of-code.ensures
    c.part-d.ensures
    c.part-t.ensures
    c.is_blank.ensures
    c.check-reason.ensures)
