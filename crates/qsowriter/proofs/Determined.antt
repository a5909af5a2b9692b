-- The public call's promise is met by one answer and one output. Assumes nothing.
use mathlib.Core.Path.{sym, ◌∙◌}
use Rattle.text.proofs.Once.{OnceWith}
use Rattle.qsowriter.proofs.write_qso.Reads as write-qso
use Rattle.qsowriter.proofs.write_qso.Kinds as write-qso-kinds

write_qso_once : OnceWith 3 write-qso-kinds.ps write-qso-kinds.r (λ κs d. d.1.1.1.1.0.now) write-qso.Post
write_qso_once κs a x y d e p q = (p.0 ∙ sym q.0, p.1 ∙ sym q.1)
