use Rattle.confirmations.proofs.AnswerLaws.{answers_are}
use Rattle.confirmations.proofs.answers_by.Goals as goal

pub card_by-requires : goal.card_by-requires
card_by-requires c = c.requires

pub returns : goal.returns
returns c = answers_are _ _ _ _ _ _ _ _ _ _ c.is_said-by_lotw.ensures c.is_by_eqsl-by_eqsl.ensures c.is_said-by_qrz.ensures c.answer_by.ensures c.answer_by-2.ensures c.answer_by-3.ensures c.card_by.ensures
