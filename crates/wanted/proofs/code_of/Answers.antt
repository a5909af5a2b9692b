use Rattle.dedupe.proofs.ViewLaws.{name_short}
use Rattle.wanted.proofs.WantedLaws.{named_code, code_is}
use Rattle.wanted.proofs.code_of.Goals as goal

pub shared_ref_as_front-shown : goal.shared_ref_as_front-shown
shared_ref_as_front-shown c = search name_short

pub shared_ref_as_front-shown-2 : goal.shared_ref_as_front-shown-2
shared_ref_as_front-shown-2 c = search name_short

pub shared_ref_as_front-shown-3 : goal.shared_ref_as_front-shown-3
shared_ref_as_front-shown-3 c = search name_short

pub returns : goal.returns
returns c =
    code_is _ c.args.wanted _ _ _ _ c.name_of-call.ensures c.name_of-mode.ensures c.name_of-band.ensures
    (named_code _ c.args.wanted.key _ _ _ _ _ _ _ c.shown.ensures c.shown-2.ensures c.shown-3.ensures c.code_of.ensures)
