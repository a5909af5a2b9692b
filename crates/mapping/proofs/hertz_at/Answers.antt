use Rattle.mapping.proofs.AnswerLaws.{hertz_absent, hertz_said}
use Rattle.mapping.proofs.hertz_at.Goals as goal

pub returns-then-is_absent : goal.returns-then-is_absent
returns-then-is_absent c = search hertz_absent

pub returns : goal.returns
returns c = search hertz_said
