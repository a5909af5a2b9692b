use borrow.Author.Rules.{rules}
use Rattle.cards.proofs.StepLaws.{going_start, going_few, going_on, going_tally, going_rows, going_grown}
use Rattle.cards.proofs.with_answers.Goals as goal

pub loop-a-init : goal.loop-a-init
loop-a-init c = search going_start

pub with_answer-t-requires : goal.with_answer-t-requires
with_answer-t-requires c = (c.requires.0, going_few _ _ _ _ _ _ _ _ c.loop-a.invariant (search rules) c.requires.1 c.requires.2 c.requires.3)

pub loop-a-preserved : goal.loop-a-preserved
loop-a-preserved c = going_on _ _ _ _ _ _ _ _ c.loop-a.invariant (search rules) _ _ c.with_answer-t.ensures.value c.with_answer-t.ensures.cards_after c.with_answer-t.ensures.grown

pub returns-clause-value : goal.returns-clause-value
returns-clause-value c = going_tally _ _ _ _ _ _ _ _ c.loop-a.invariant (search rules)

pub returns-clause-cards_after : goal.returns-clause-cards_after
returns-clause-cards_after c = going_rows _ _ _ _ _ _ _ _ c.loop-a.invariant (search rules)

pub returns-clause-grown : goal.returns-clause-grown
returns-clause-grown c = going_grown _ _ _ _ _ _ _ _ c.loop-a.invariant (search rules)
