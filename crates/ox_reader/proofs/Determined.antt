-- Each public call's promise is met by one answer. Assumes nothing.
use mathlib.Core.Path.{sym, ◌∙◌}
use Rattle.text.proofs.Once.{OnceWith}
use Rattle.ox_reader.proofs.ox_read.Reads as ox-read
use Rattle.ox_reader.proofs.ox_read.Kinds as ox-read-kinds

-- the answer and the table
ox_read_once : OnceWith 2 ox-read-kinds.ps ox-read-kinds.r (λ κs d. d.1.0.now) ox-read.Post
ox_read_once κs a x y d e p q = (p.0 ∙ sym q.0, p.1 ∙ sym q.1)
