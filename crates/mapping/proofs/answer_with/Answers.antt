use Rattle.mapping.proofs.AnswerLaws.{inexact, exact}
use Rattle.mapping.proofs.answer_with.Goals as goal

pub returns-then-any : goal.returns-then-any
returns-then-any c = search inexact

pub returns : goal.returns
returns c = search exact
