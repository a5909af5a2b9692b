use Rattle.mapping.proofs.AnswerLaws.{number_absent, number_said}
use Rattle.mapping.proofs.number_at.Goals as goal

pub returns-then-is_absent : goal.returns-then-is_absent
returns-then-is_absent c = search number_absent

pub returns : goal.returns
returns c = search number_said
