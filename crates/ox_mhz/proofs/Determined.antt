-- Each public call's promise is met by one answer. Assumes nothing.
use mathlib.Core.Path.{sym, ◌∙◌}
use Rattle.text.proofs.Once.{Once, OnceWith}
use Rattle.ox_mhz.proofs.ox_mhz_to_hz.Reads as ox-mhz-to-hz
use Rattle.ox_mhz.proofs.ox_mhz_to_hz.Kinds as ox-mhz-to-hz-kinds
use Rattle.ox_mhz.proofs.ox_hz_to_mhz.Reads as ox-hz-to-mhz
use Rattle.ox_mhz.proofs.ox_hz_to_mhz.Kinds as ox-hz-to-mhz-kinds

ox_mhz_to_hz_once : Once 1 ox-mhz-to-hz-kinds.ps ox-mhz-to-hz-kinds.r ox-mhz-to-hz.Post
ox_mhz_to_hz_once κs a x y d e p q = p ∙ sym q

ox_hz_to_mhz_once : OnceWith 1 ox-hz-to-mhz-kinds.ps ox-hz-to-mhz-kinds.r (λ κs d. d.1.0.now) ox-hz-to-mhz.Post
ox_hz_to_mhz_once κs a x y d e p q = (p.answer ∙ sym q.answer, p.output ∙ sym q.output)
