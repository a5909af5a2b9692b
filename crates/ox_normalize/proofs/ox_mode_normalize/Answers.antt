use Rattle.ox_normalize.proofs.NormalizingAnswers.{both_short}
use Rattle.ox_normalize.proofs.ox_mode_normalize.Goals as goal

pub mode_answer-requires : goal.mode_answer-requires
mode_answer-requires c = both_short _ _ _ c.check_texts.ensures c.in-Ok.is
