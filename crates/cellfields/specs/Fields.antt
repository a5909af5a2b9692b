-- The text of a column's field.
use Rattle.std.specs.Prelude.{ℕ, List, [], ◌++◌, get_or}
use Rattle.tables.specs.Place.{spelled}
use Rattle.tables.specs.declared.Name.{Name}
use Rattle.fields.specs.Written.{field_text}
use Rattle.fields.specs.Parts.{open_text, length_text}
use Rattle.cells.specs.Cells.{column_order, cell_text}
use Rattle.cells.specs.declared.Cell.{Cell}

-- the name of column k in byte order; with its length
unfoldable pub name_at : ℕ → List ℕ
name_at k = get_or column_order k []

unfoldable pub column_name : ℕ → Name
column_name k = spelled (name_at k)

-- <NAME:LEN>
unfoldable pub tag_text : ℕ → ℕ → List ℕ
tag_text k size = open_text (name_at k) ++ length_text size

-- <NAME:LEN>value and a space
unfoldable pub cell_field : List ℕ → ℕ → Cell → List ℕ
cell_field text k cell = field_text (record { name = name_at k; value = cell_text text cell })
