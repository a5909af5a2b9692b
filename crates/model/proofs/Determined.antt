-- Each public call's promise is met by one answer. Assumes nothing.
use mathlib.Core.Path.{sym, ◌∙◌}
use Rattle.text.proofs.Once.{Once}
use Rattle.model.proofs.one_if.Reads as one_if_lem
use Rattle.model.proofs.one_if.Kinds as one-if-kinds
use Rattle.model.proofs.no_frequency.Reads as no-frequency
use Rattle.model.proofs.no_frequency.Kinds as no-frequency-kinds
use Rattle.model.proofs.no_dxcc.Reads as no-dxcc
use Rattle.model.proofs.no_dxcc.Kinds as no-dxcc-kinds
use Rattle.model.proofs.empty.Reads as empty
use Rattle.model.proofs.empty.Kinds as empty-kinds
use Rattle.model.proofs.accepted.Reads as accepted
use Rattle.model.proofs.accepted.Kinds as accepted-kinds
use Rattle.model.proofs.refused.Reads as refused
use Rattle.model.proofs.refused.Kinds as refused-kinds
use Rattle.model.proofs.is_fit.Reads as is-fit
use Rattle.model.proofs.is_fit.Kinds as is-fit-kinds
use Rattle.model.proofs.is_qso.Reads as is_qso_lem
use Rattle.model.proofs.is_qso.Kinds as is-qso-kinds
use Rattle.model.proofs.Qso.normalize.Reads as normalize
use Rattle.model.proofs.Qso.normalize.Kinds as normalize-kinds
use Rattle.model.proofs.normalized.Reads as normalized
use Rattle.model.proofs.normalized.Kinds as normalized-kinds

one_if_once : Once 0 one-if-kinds.ps one-if-kinds.r one_if_lem.Post
one_if_once κs a x y d e p q = p ∙ sym q

no_frequency_once : Once 0 no-frequency-kinds.ps no-frequency-kinds.r no-frequency.Post
no_frequency_once κs a x y d e p q = p ∙ sym q

no_dxcc_once : Once 0 no-dxcc-kinds.ps no-dxcc-kinds.r no-dxcc.Post
no_dxcc_once κs a x y d e p q = p ∙ sym q

empty_once : Once 0 empty-kinds.ps empty-kinds.r empty.Post
empty_once κs a x y d e p q = p ∙ sym q

accepted_once : Once 0 accepted-kinds.ps accepted-kinds.r accepted.Post
accepted_once κs a x y d e p q = p ∙ sym q

refused_once : Once 0 refused-kinds.ps refused-kinds.r refused.Post
refused_once κs a x y d e p q = p ∙ sym q

is_fit_once : Once 1 is-fit-kinds.ps is-fit-kinds.r is-fit.Post
is_fit_once κs a x y d e p q = p ∙ sym q

is_qso_once : Once 1 is-qso-kinds.ps is-qso-kinds.r is_qso_lem.Post
is_qso_once κs a x y d e p q = p ∙ sym q

normalize_once : Once 1 normalize-kinds.ps normalize-kinds.r normalize.Post
normalize_once κs a x y d e p q = p ∙ sym q

normalized_once : Once 1 normalized-kinds.ps normalized-kinds.r normalized.Post
normalized_once κs a x y d e p q = p ∙ sym q
