use Rattle.mapping.proofs.AnswerLaws.{hertz_is}
use Rattle.mapping.proofs.frequency_of.Goals as goal

pub returns-in-Is : goal.returns-in-Is
returns-in-Is c = search hertz_is
