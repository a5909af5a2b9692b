-- Each public call's promise is met by one answer. Assumes nothing.
use mathlib.Core.Path.{sym, ◌∙◌}
use Rattle.text.proofs.Once.{Once, OnceWith}
use Rattle.output.specs.Put.{Put}
use Rattle.output.proofs.put_byte.Reads as put_byte
use Rattle.output.proofs.put_byte.Kinds as put-byte-kinds
use Rattle.output.proofs.put_bytes.Reads as put-bytes
use Rattle.output.proofs.put_bytes.Kinds as put-bytes-kinds
use Rattle.output.proofs.put_decimal.Reads as put-decimal
use Rattle.output.proofs.put_decimal.Kinds as put-decimal-kinds
use Rattle.output.proofs.decimal_size.Reads as decimal-size
use Rattle.output.proofs.decimal_size.Kinds as decimal-size-kinds

decimal_size_once : Once 0 decimal-size-kinds.ps decimal-size-kinds.r decimal-size.Post
decimal_size_once κs a x y d e p q = p ∙ sym q

-- the place after what was put, and the whole output
put_byte_once : OnceWith 1 put-byte-kinds.ps put-byte-kinds.r (λ κs d. d.0.now) put_byte.Post
unfolding Put
put_byte_once κs a x y d e p q = (p.0 ∙ sym q.0, p.1 ∙ sym q.1)

put_bytes_once : OnceWith 2 put-bytes-kinds.ps put-bytes-kinds.r (λ κs d. d.0.now) put-bytes.Post
unfolding Put
put_bytes_once κs a x y d e p q = (p.0 ∙ sym q.0, p.1 ∙ sym q.1)

put_decimal_once : OnceWith 1 put-decimal-kinds.ps put-decimal-kinds.r (λ κs d. d.0.now) put-decimal.Post
unfolding Put
put_decimal_once κs a x y d e p q = (p.0 ∙ sym q.0, p.1 ∙ sym q.1)
