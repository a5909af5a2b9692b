-- Each public call's promise is met by one answer. Assumes nothing.
use mathlib.Core.Path.{sym, refl, ◌∙◌}
use Rattle.text.proofs.Once.{Once, OnceWith}
use Rattle.counted.proofs.has_service.Reads as has-service
use Rattle.counted.proofs.has_service.Kinds as has-service-kinds
use Rattle.counted.proofs.is_seen.Reads as is_seen
use Rattle.counted.proofs.is_seen.Kinds as is-seen-kinds
use Rattle.counted.proofs.mark.Reads as mark
use Rattle.counted.proofs.mark.Kinds as mark-kinds

has_service_once : Once 0 has-service-kinds.ps has-service-kinds.r has-service.Post
has_service_once κs a x y d e p q = p ∙ sym q

is_seen_once : Once 2 is-seen-kinds.ps is-seen-kinds.r is_seen.Post
is_seen_once κs a x y d e p q = p ∙ sym q

-- the rows
mark_once : OnceWith 1 mark-kinds.ps mark-kinds.r (λ κs d. d.0.now) mark.Post
mark_once κs a x y d e p q = (refl, p ∙ sym q)
