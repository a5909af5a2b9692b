use Rattle.text.proofs.SpaceLaws.{trim_whole}
use Rattle.text.proofs.space.trim.Goals as goal

pub returns-then-is_plain-2 : goal.returns-then-is_plain-2
returns-then-is_plain-2 c = search trim_whole
