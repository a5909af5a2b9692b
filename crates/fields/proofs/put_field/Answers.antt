use Rattle.fields.proofs.FieldLaws.{field_first, field_second, field_third, put_field_is}
use Rattle.fields.proofs.put_field.Goals as goal

pub put_open-a-requires : goal.put_open-a-requires
put_open-a-requires c = search field_first

pub put_length-b-requires : goal.put_length-b-requires
put_length-b-requires c = search field_second

pub put_value-requires : goal.put_value-requires
put_value-requires c = search field_third

pub returns : goal.returns
returns c = search put_field_is
