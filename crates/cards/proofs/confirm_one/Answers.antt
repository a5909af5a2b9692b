use Rattle.cards.proofs.StepLaws.{chosen, passed}
use Rattle.cards.proofs.confirm_one.Goals as goal

pub returns-then-any-clause-value : goal.returns-then-any-clause-value
returns-then-any-clause-value c = search chosen

pub returns-then-any-clause-cards_after : goal.returns-then-any-clause-cards_after
returns-then-any-clause-cards_after c = search chosen

pub returns-then-any-clause-rows_after : goal.returns-then-any-clause-rows_after
returns-then-any-clause-rows_after c = search chosen

pub returns-clause-value : goal.returns-clause-value
returns-clause-value c = search passed

pub returns-clause-cards_after : goal.returns-clause-cards_after
returns-clause-cards_after c = search passed

pub returns-clause-rows_after : goal.returns-clause-rows_after
returns-clause-rows_after c = search passed
