-- Each public call's promise is met by one answer and one output. Assumes nothing.
use mathlib.Core.Path.{sym, ◌∙◌}
use Rattle.text.proofs.Once.{OnceWith}
use Rattle.ox_writer.proofs.ox_write.Reads as ox-write
use Rattle.ox_writer.proofs.ox_write.Kinds as ox-write-kinds
use Rattle.ox_writer.proofs.ox_journal_header.Reads as ox-journal-header
use Rattle.ox_writer.proofs.ox_journal_header.Kinds as ox-journal-header-kinds
use Rattle.ox_writer.proofs.ox_export_header.Reads as ox-export-header
use Rattle.ox_writer.proofs.ox_export_header.Kinds as ox-export-header-kinds
use Rattle.ox_writer.proofs.ox_station_fields.Reads as ox-station-fields
use Rattle.ox_writer.proofs.ox_station_fields.Kinds as ox-station-fields-kinds

ox_write_once : OnceWith 3 ox-write-kinds.ps ox-write-kinds.r (λ κs d. d.1.1.1.0.now) ox-write.Post
ox_write_once κs a x y d e p q = (p.0 ∙ sym q.0, p.1 ∙ sym q.1)

ox_journal_header_once : OnceWith 1 ox-journal-header-kinds.ps ox-journal-header-kinds.r (λ κs d. d.0.now) ox-journal-header.Post
ox_journal_header_once κs a x y d e p q = (p.0 ∙ sym q.0, p.1 ∙ sym q.1)

ox_export_header_once : OnceWith 4 ox-export-header-kinds.ps ox-export-header-kinds.r (λ κs d. d.1.1.1.0.now) ox-export-header.Post
ox_export_header_once κs a x y d e p q = (p.0 ∙ sym q.0, p.1 ∙ sym q.1)

ox_station_fields_once : OnceWith 8 ox-station-fields-kinds.ps ox-station-fields-kinds.r (λ κs d. d.1.1.1.1.1.1.1.0.now) ox-station-fields.Post
ox_station_fields_once κs a x y d e p q = (p.0 ∙ sym q.0, p.1 ∙ sym q.1)
