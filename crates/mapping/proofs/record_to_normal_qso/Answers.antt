use Rattle.mapping.proofs.AnswerLaws.{normal_long, normal_taken}
use Rattle.mapping.proofs.record_to_normal_qso.Goals as goal

pub returns-then-text-gt-LONGEST : goal.returns-then-text-gt-LONGEST
returns-then-text-gt-LONGEST c = search normal_long

pub returns : goal.returns
returns c = search normal_taken
