use Rattle.text.proofs.SpaceLaws.{blank_is}
use Rattle.text.proofs.space.is_blank.Goals as goal

pub returns : goal.returns
returns c = search blank_is
