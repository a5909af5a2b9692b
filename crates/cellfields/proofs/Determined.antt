-- Each public call's promise is met by one answer. Assumes nothing.
use mathlib.Core.Path.{sym, ◌∙◌}
use Rattle.text.proofs.Once.{Once, OnceWith}
use Rattle.output.specs.Put.{Put}
use Rattle.cellfields.proofs.column_name.Reads as column_name_lem
use Rattle.cellfields.proofs.column_name.Kinds as column-name-kinds
use Rattle.cellfields.proofs.put_field.Reads as put-field
use Rattle.cellfields.proofs.put_field.Kinds as put-field-kinds
use Rattle.cellfields.proofs.field_size.Reads as field_size
use Rattle.cellfields.proofs.field_size.Kinds as field-size-kinds

column_name_once : Once 0 column-name-kinds.ps column-name-kinds.r column_name_lem.Post
column_name_once κs a x y d e p q = p ∙ sym q

put_field_once : OnceWith 2 put-field-kinds.ps put-field-kinds.r (λ κs d. d.0.now) put-field.Post
unfolding Put
put_field_once κs a x y d e p q = (p.0 ∙ sym q.0, p.1 ∙ sym q.1)

field_size_once : Once 1 field-size-kinds.ps field-size-kinds.r field_size.Post
field_size_once κs a x y d e p q = p.0 ∙ sym q.0
