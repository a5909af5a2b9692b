-- The public call's promise is met by one answer, one output and one table. Assumes nothing.
use mathlib.Core.Path.{sym, ◌∙◌}
use Rattle.text.proofs.Once.{OnceWith}
use Rattle.roundtrip.proofs.write_and_read.Reads as write-and-read
use Rattle.roundtrip.proofs.write_and_read.Kinds as write-and-read-kinds

write_and_read_once : OnceWith 4 write-and-read-kinds.ps write-and-read-kinds.r (λ κs d. d.1.1.1.0.now) write-and-read.Post
write_and_read_once κs a x y d e p q = (p.0 ∙ sym q.0, p.1.0 ∙ sym q.1.0)

write_and_read_table_once : OnceWith 4 write-and-read-kinds.ps write-and-read-kinds.r (λ κs d. d.1.1.1.1.0.now) write-and-read.Post
write_and_read_table_once κs a x y d e p q = (p.0 ∙ sym q.0, p.1.1.0 ∙ sym q.1.1.0)
