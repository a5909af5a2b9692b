use Rattle.cellfields.proofs.TextLaws.{field_tag, field_cell, field_space, field_put}
use Rattle.cellfields.proofs.put_field.Goals as goal

pub put_tag-a-requires : goal.put_tag-a-requires
put_tag-a-requires c = search field_tag

pub put_cell-b-requires : goal.put_cell-b-requires
put_cell-b-requires c = search field_cell

pub put_byte-requires : goal.put_byte-requires
put_byte-requires c = search field_space

pub returns : goal.returns
returns c = search field_put
