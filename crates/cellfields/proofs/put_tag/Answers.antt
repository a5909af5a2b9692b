use Rattle.cellfields.proofs.TextLaws.{tag_fits, tag_open, tag_length, tag_put}
use Rattle.cellfields.proofs.put_tag.Goals as goal

pub put_open-a-requires : goal.put_open-a-requires
put_open-a-requires c = search tag_open

pub shared_ref_as_front-spelled : goal.shared_ref_as_front-spelled
shared_ref_as_front-spelled c = search tag_fits

pub put_length-requires : goal.put_length-requires
put_length-requires c = search tag_length

pub returns : goal.returns
returns c = search tag_put
