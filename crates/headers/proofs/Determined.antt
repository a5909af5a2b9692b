-- Each public call's promise is met by one answer. Assumes nothing.
use mathlib.Core.Path.{sym, ◌∙◌}
use Rattle.text.proofs.Once.{Once, OnceWith}
use Rattle.headers.proofs.cap.Reads as cap
use Rattle.headers.proofs.cap.Kinds as cap-kinds
use Rattle.headers.proofs.with_field.Reads as with-field
use Rattle.headers.proofs.with_field.Kinds as with-field-kinds
use Rattle.headers.proofs.are_utf8.Reads as are_utf8
use Rattle.headers.proofs.are_utf8.Kinds as are-utf8-kinds
use Rattle.headers.proofs.write_journal_header.Reads as write-journal-header
use Rattle.headers.proofs.write_journal_header.Kinds as write-journal-header-kinds
use Rattle.headers.proofs.write_export_header.Reads as write-export-header
use Rattle.headers.proofs.write_export_header.Kinds as write-export-header-kinds

cap_once : Once 0 cap-kinds.ps cap-kinds.r cap.Post
cap_once κs a x y d e p q = p.0 ∙ sym q.0

with_field_once : Once 2 with-field-kinds.ps with-field-kinds.r with-field.Post
with_field_once κs a x y d e p q = p.0 ∙ sym q.0

are_utf8_once : Once 3 are-utf8-kinds.ps are-utf8-kinds.r are_utf8.Post
are_utf8_once κs a x y d e p q = p ∙ sym q

write_journal_header_once : OnceWith 1 write-journal-header-kinds.ps write-journal-header-kinds.r (λ κs d. d.0.now) write-journal-header.Post
write_journal_header_once κs a x y d e p q = (p.0 ∙ sym q.0, p.1 ∙ rw (p.0 ∙ sym q.0) (sym q.1))

write_export_header_once : OnceWith 4 write-export-header-kinds.ps write-export-header-kinds.r (λ κs d. d.1.1.1.0.now) write-export-header.Post
write_export_header_once κs a x y d e p q = (p.0 ∙ sym q.0, p.1 ∙ rw (p.0 ∙ sym q.0) (sym q.1))
