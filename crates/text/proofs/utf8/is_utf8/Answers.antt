use Rattle.text.proofs.BlockLaws.{utf8_is}
use Rattle.text.proofs.utf8.is_utf8.Goals as goal

pub returns : goal.returns
returns c = search utf8_is
