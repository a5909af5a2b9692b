-- Each public call's promise is met by one answer. Assumes nothing.
use mathlib.Core.Path.{sym, ◌∙◌}
use Rattle.text.proofs.Once.{Once, OnceWith}
use Rattle.output.specs.Put.{Put}
use Rattle.fields.proofs.put_field.Reads as put-field
use Rattle.fields.proofs.put_field.Kinds as put-field-kinds
use Rattle.fields.proofs.put_raised.Reads as put-raised
use Rattle.fields.proofs.put_raised.Kinds as put-raised-kinds
use Rattle.fields.proofs.put_open.Reads as put-open
use Rattle.fields.proofs.put_open.Kinds as put-open-kinds
use Rattle.fields.proofs.put_length.Reads as put_length
use Rattle.fields.proofs.put_length.Kinds as put-length-kinds
use Rattle.fields.proofs.field_size.Reads as field_size
use Rattle.fields.proofs.field_size.Kinds as field-size-kinds

put_raised_once : OnceWith 2 put-raised-kinds.ps put-raised-kinds.r (λ κs d. d.0.now) put-raised.Post
unfolding Put
put_raised_once κs a x y d e p q = (p.0 ∙ sym q.0, p.1 ∙ sym q.1)

put_open_once : OnceWith 2 put-open-kinds.ps put-open-kinds.r (λ κs d. d.0.now) put-open.Post
unfolding Put
put_open_once κs a x y d e p q = (p.0 ∙ sym q.0, p.1 ∙ sym q.1)

put_length_once : OnceWith 1 put-length-kinds.ps put-length-kinds.r (λ κs d. d.0.now) put_length.Post
unfolding Put
put_length_once κs a x y d e p q = (p.0 ∙ sym q.0, p.1 ∙ sym q.1)

put_field_once : OnceWith 3 put-field-kinds.ps put-field-kinds.r (λ κs d. d.0.now) put-field.Post
unfolding Put
put_field_once κs a x y d e p q = (p.0 ∙ sym q.0, p.1 ∙ sym q.1)

field_size_once : Once 2 field-size-kinds.ps field-size-kinds.r field_size.Post
field_size_once κs a x y d e p q = p.0 ∙ sym q.0
