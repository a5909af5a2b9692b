use Rattle.cards.specs.Steps.{answers_in}
use borrow.Author.Rules.{rules}
use Rattle.cards.proofs.answers_at.Goals as goal

pub returns : goal.returns
unfolding answers_in
returns c = search rules
