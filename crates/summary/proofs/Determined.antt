-- The public call's promise is met by one answer and one output. Assumes nothing.
use mathlib.Core.Path.{sym, ◌∙◌}
use Rattle.text.proofs.Once.{OnceWith}
use Rattle.summary.proofs.write_summary.Reads as write-summary
use Rattle.summary.proofs.write_summary.Kinds as write-summary-kinds

write_summary_once : OnceWith 1 write-summary-kinds.ps write-summary-kinds.r (λ κs d. d.1.0.now) write-summary.Post
write_summary_once κs a x y d e p q = (p.0 ∙ sym q.0, p.1 ∙ sym q.1)
