-- Each public call's promise is met by one answer. Assumes nothing.
use mathlib.Core.Path.{sym, ◌∙◌}
use Rattle.text.proofs.Once.{OnceWith}
use Rattle.listwriter.proofs.start.Reads as start
use Rattle.listwriter.proofs.start.Kinds as start-kinds
use Rattle.listwriter.proofs.append.Reads as append
use Rattle.listwriter.proofs.append.Kinds as append-kinds

-- the answer, and the output
start_once : OnceWith 1 start-kinds.ps start-kinds.r (λ κs d. d.0.now) start.Post
start_once κs a x y d e p q = (p.0 ∙ sym q.0, p.1 ∙ sym q.1)

append_once : OnceWith 6 append-kinds.ps append-kinds.r (λ κs d. d.0.now) append.Post
append_once κs a x y d e p q = (p.0 ∙ sym q.0, p.1 ∙ sym q.1)
