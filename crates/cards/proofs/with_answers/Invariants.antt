use Rattle.cards.specs.Steps.{unseen}
use Rattle.cards.proofs.StepLaws.{Going}
use Rattle.cards.proofs.with_answers.Given as goal

abbrev pub invariant-loop-a : goal.invariant-loop-a
invariant-loop-a l = Going l.to (unseen l.text l.rows l.k) l.fn.answers l.fn.was l.initial.cards l.a-index l.t l.cards
