use Rattle.tags.proofs.TagLaws.{length_part}
use Rattle.tags.proofs.length_after.Goals as goal

pub returns : goal.returns
returns c = search length_part
