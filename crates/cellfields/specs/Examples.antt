-- Worked examples.
use Rattle.std.specs.Prelude.{◌≡◌, refl, true, []}
use Rattle.text.specs.Ascii.{ascii}
use Rattle.letters.specs.Capitals.{raised}
use Rattle.decimal.specs.Digits.{digits, decimal}
use Rattle.fields.specs.Written.{field_text}
use Rattle.cells.specs.Cells.{column_order}
use Rattle.cells.specs.declared.Cell.TheVariants.{Number}
use Rattle.cellfields.specs.Fields.{name_at, tag_text, cell_field}

tag : tag_text 8 12 ≡ ascii "<QSO_DATE:12>"
unfolding tag_text name_at column_order raised decimal digits
tag = refl

entity : cell_field [] 3 (Number true 7) ≡ ascii "<DXCC:2>-7 "
unfolding cell_field name_at column_order field_text decimal digits
entity = refl
