-- Each public call's promise is met by one answer. Assumes nothing.
use mathlib.Core.Path.{sym, ◌∙◌}
use Rattle.text.proofs.Once.{Once}
use Rattle.ox_model.proofs.ox_column.Reads as ox-column
use Rattle.ox_model.proofs.ox_column.Kinds as ox-column-kinds
use Rattle.ox_model.proofs.ox_record_to_qso.Reads as ox-record-to-qso
use Rattle.ox_model.proofs.ox_record_to_qso.Kinds as ox-record-to-qso-kinds
use Rattle.ox_model.proofs.ox_normalize_qso.Reads as ox-normalize-qso
use Rattle.ox_model.proofs.ox_normalize_qso.Kinds as ox-normalize-qso-kinds
use Rattle.ox_model.proofs.ox_record_to_normal_qso.Reads as ox-record-to-normal-qso
use Rattle.ox_model.proofs.ox_record_to_normal_qso.Kinds as ox-record-to-normal-qso-kinds

ox_column_once : Once 1 ox-column-kinds.ps ox-column-kinds.r ox-column.Post
ox_column_once κs a x y d e p q = p ∙ sym q

ox_record_to_qso_once : Once 2 ox-record-to-qso-kinds.ps ox-record-to-qso-kinds.r ox-record-to-qso.Post
ox_record_to_qso_once κs a x y d e p q = p ∙ sym q

ox_normalize_qso_once : Once 1 ox-normalize-qso-kinds.ps ox-normalize-qso-kinds.r ox-normalize-qso.Post
ox_normalize_qso_once κs a x y d e p q = p ∙ sym q

ox_record_to_normal_qso_once : Once 2 ox-record-to-normal-qso-kinds.ps ox-record-to-normal-qso-kinds.r ox-record-to-normal-qso.Post
ox_record_to_normal_qso_once κs a x y d e p q = p ∙ sym q
