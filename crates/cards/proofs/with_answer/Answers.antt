use Rattle.cards.proofs.StepLaws.{answer_counted, answer_new, answer_not_new, absent_counted, absent_cards}
use Rattle.cards.proofs.with_answer.Goals as goal

pub returns-then-is_new-clause-value : goal.returns-then-is_new-clause-value
returns-then-is_new-clause-value c = search answer_counted

pub returns-then-is_new-clause-cards_after : goal.returns-then-is_new-clause-cards_after
returns-then-is_new-clause-cards_after c = search answer_new

pub returns-then-a-clause-value : goal.returns-then-a-clause-value
returns-then-a-clause-value c = search answer_counted

pub returns-then-a-clause-cards_after : goal.returns-then-a-clause-cards_after
returns-then-a-clause-cards_after c = search answer_not_new

pub returns-clause-value : goal.returns-clause-value
returns-clause-value c = search absent_counted

pub returns-clause-cards_after : goal.returns-clause-cards_after
returns-clause-cards_after c = search absent_cards
