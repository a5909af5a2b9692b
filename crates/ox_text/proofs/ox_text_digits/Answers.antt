use Rattle.ox_text.proofs.WriteAnswers.{short, room, wrote}
use Rattle.ox_text.proofs.ox_text_digits.Goals as goal

pub returns-then-out-size : goal.returns-then-out-size
returns-then-out-size c = search short

pub put_decimal-length-requires : goal.put_decimal-length-requires
put_decimal-length-requires c = search room

pub returns : goal.returns
returns c = search wrote
