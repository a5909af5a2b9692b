-- Each public call's promise is met by one answer. Assumes nothing.
use mathlib.Core.Path.{sym, ◌∙◌}
use Rattle.text.proofs.Once.{Once, OnceWith}
use Rattle.writer.proofs.write.Reads as write
use Rattle.writer.proofs.write.Kinds as write-kinds
use Rattle.writer.proofs.row_at.Reads as row_at
use Rattle.writer.proofs.row_at.Kinds as row-at-kinds

write_once : OnceWith 3 write-kinds.ps write-kinds.r (λ κs d. d.1.1.1.0.now) write.Post
write_once κs a x y d e p q = (p.0 ∙ sym q.0, p.1 ∙ sym q.1)

row_at_once : Once 1 row-at-kinds.ps row-at-kinds.r row_at.Post
row_at_once κs a x y d e p q = p ∙ sym q
