-- Each public call's promise is met by one answer and one output. Assumes nothing.
use mathlib.Core.Path.{sym, ◌∙◌}
use Rattle.text.proofs.Once.{OnceWith}
use Rattle.ox_qso.proofs.ox_write_qso.Reads as ox-write-qso
use Rattle.ox_qso.proofs.ox_write_qso.Kinds as ox-write-qso-kinds

ox_write_qso_once : OnceWith 3 ox-write-qso-kinds.ps ox-write-qso-kinds.r (λ κs d. d.1.1.1.1.0.now) ox-write-qso.Post
ox_write_qso_once κs a x y d e p q = (p.0 ∙ sym q.0, p.1 ∙ sym q.1)
