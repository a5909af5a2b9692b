-- The text of columns and rows in one.
use Rattle.std.specs.Prelude.{ℕ, ◌-◌, ◌≤◌, ◌≡◌, List, map}
use Rattle.adif.specs.Grammar.{Field}
use Rattle.fields.specs.Written.{record_text}
use Rattle.writer.specs.Rows.{rows_from, row_field}
use Rattle.cells.specs.Cells.{column_order, cell_fields}
use Rattle.cells.specs.declared.Cell.{Cell}
use Rattle.cellfields.specs.Fields.{name_at}
use Rattle.merge.specs.Merge.{below, above, merged}
use Rattle.merge.specs.declared.Cut.{Cut}

-- the fields of the rows from row a up to row b
unfoldable pub fields_between : List ℕ → List ℕ → ℕ → ℕ → List Field
fields_between text t a b = map (row_field text) (rows_from t a (b - a))

-- the text of the cells' fields and of the first `count` rows
unfoldable pub merged_text : List ℕ → List Cell → List ℕ → ℕ → List ℕ
merged_text text cells t count = record_text (merged (cell_fields text column_order cells) (fields_between text t 0 count))

-- rows from `first` on, cut at the name of column k
pub record Cuts (text t : List ℕ) (first count k : ℕ) (c : Cut) : Type 0 where
  pub rises : first ≤ c.below
  pub inside : c.below ≤ count
  pub ends : c.above ≤ count
  pub lower : below (name_at k) (fields_between text t first count) ≡ fields_between text t first c.below
  pub upper : above (name_at k) (fields_between text t first count) ≡ fields_between text t c.above count
