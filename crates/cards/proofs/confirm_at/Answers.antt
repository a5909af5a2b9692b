use Rattle.cards.proofs.StepLaws.{at_counted, at_cards, at_marked, at_left, grown_from, few_used, few_already, few_unmatched}
use Rattle.cards.proofs.confirm_at.Goals as goal

pub with_answers-r-requires : goal.with_answers-r-requires
with_answers-r-requires c = let P = c.requires in (P.marked, few_used _ _ _ _ _ _ _ _ P c.with_none.ensures, few_already _ _ _ _ _ _ _ _ P c.with_none.ensures, few_unmatched _ _ _ _ _ _ _ _ P c.with_none.ensures)

pub mark-requires : goal.mark-requires
mark-requires c = let P = c.requires in (P.marked.room, P.marked.inside, P.few)

pub returns-then-services-ne0-clause-value : goal.returns-then-services-ne0-clause-value
returns-then-services-ne0-clause-value c = at_counted _ _ _ _ _ _ _ _ _ _ _ _ c.number_in.ensures c.number_in-2.ensures c.number_in-3.ensures c.target_of-to.ensures c.answers_at-answers.ensures c.with_none.ensures _ c.with_answers-r.ensures.value

pub returns-then-services-ne0-clause-cards_after : goal.returns-then-services-ne0-clause-cards_after
returns-then-services-ne0-clause-cards_after c = at_cards _ _ _ _ _ _ _ _ _ _ _ _ c.number_in.ensures c.number_in-2.ensures c.number_in-3.ensures c.target_of-to.ensures c.answers_at-answers.ensures c.with_none.ensures _ _ c.with_answers-r.ensures.cards_after

pub returns-then-services-ne0-clause-rows_after : goal.returns-then-services-ne0-clause-rows_after
returns-then-services-ne0-clause-rows_after c = at_marked _ _ _ _ _ c.services_in-services.ensures _ c.if-services-ne0.true c.mark.ensures

pub returns-then-services-ne0-clause-grown : goal.returns-then-services-ne0-clause-grown
returns-then-services-ne0-clause-grown c = grown_from _ _ _ c.with_none.ensures c.with_answers-r.ensures.grown

pub returns-else-services-ne0-clause-value : goal.returns-else-services-ne0-clause-value
returns-else-services-ne0-clause-value c = at_counted _ _ _ _ _ _ _ _ _ _ _ _ c.number_in.ensures c.number_in-2.ensures c.number_in-3.ensures c.target_of-to.ensures c.answers_at-answers.ensures c.with_none.ensures _ c.with_answers-r.ensures.value

pub returns-else-services-ne0-clause-cards_after : goal.returns-else-services-ne0-clause-cards_after
returns-else-services-ne0-clause-cards_after c = at_cards _ _ _ _ _ _ _ _ _ _ _ _ c.number_in.ensures c.number_in-2.ensures c.number_in-3.ensures c.target_of-to.ensures c.answers_at-answers.ensures c.with_none.ensures _ _ c.with_answers-r.ensures.cards_after

pub returns-else-services-ne0-clause-rows_after : goal.returns-else-services-ne0-clause-rows_after
returns-else-services-ne0-clause-rows_after c = at_left _ _ _ _ _ c.services_in-services.ensures c.if-services-ne0.false

pub returns-else-services-ne0-clause-grown : goal.returns-else-services-ne0-clause-grown
returns-else-services-ne0-clause-grown c = grown_from _ _ _ c.with_none.ensures c.with_answers-r.ensures.grown
