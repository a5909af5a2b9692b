-- Each public call's promise is met by one answer. Assumes nothing.
use mathlib.Core.Path.{sym, ◌∙◌}
use Rattle.text.proofs.Once.{Once}
use Rattle.mapping.proofs.map_rows.Reads as map_rows
use Rattle.mapping.proofs.map_rows.Kinds as map-rows-kinds
use Rattle.mapping.proofs.record_to_qso.Reads as record-to-qso
use Rattle.mapping.proofs.record_to_qso.Kinds as record-to-qso-kinds
use Rattle.mapping.proofs.record_to_normal_qso.Reads as record-to-normal-qso
use Rattle.mapping.proofs.record_to_normal_qso.Kinds as record-to-normal-qso-kinds

map_rows_once : Once 2 map-rows-kinds.ps map-rows-kinds.r map_rows.Post
map_rows_once κs a x y d e p q = p ∙ sym q

record_to_qso_once : Once 2 record-to-qso-kinds.ps record-to-qso-kinds.r record-to-qso.Post
record_to_qso_once κs a x y d e p q = p ∙ sym q

record_to_normal_qso_once : Once 2 record-to-normal-qso-kinds.ps record-to-normal-qso-kinds.r record-to-normal-qso.Post
record_to_normal_qso_once κs a x y d e p q = p ∙ sym q
