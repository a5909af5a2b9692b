-- Each public call's promise is met by one answer. Assumes nothing.
use mathlib.Core.Path.{sym, ◌∙◌}
use Rattle.text.proofs.Once.{Once}
use Rattle.ox_dedupe.proofs.ox_parse_dt.Reads as ox-parse-dt
use Rattle.ox_dedupe.proofs.ox_parse_dt.Kinds as ox-parse-dt-kinds
use Rattle.ox_dedupe.proofs.ox_in_log.Reads as ox-in-log
use Rattle.ox_dedupe.proofs.ox_in_log.Kinds as ox-in-log-kinds
use Rattle.ox_dedupe.proofs.ox_in_file.Reads as ox-in-file
use Rattle.ox_dedupe.proofs.ox_in_file.Kinds as ox-in-file-kinds
use Rattle.ox_dedupe.proofs.ox_same_natural_key.Reads as ox-same-natural-key
use Rattle.ox_dedupe.proofs.ox_same_natural_key.Kinds as ox-same-natural-key-kinds
use Rattle.ox_dedupe.proofs.ox_within_window.Reads as ox-within-window
use Rattle.ox_dedupe.proofs.ox_within_window.Kinds as ox-within-window-kinds
use Rattle.ox_dedupe.proofs.ox_is_duplicate.Reads as ox-is-duplicate
use Rattle.ox_dedupe.proofs.ox_is_duplicate.Kinds as ox-is-duplicate-kinds

ox_parse_dt_once : Once 2 ox-parse-dt-kinds.ps ox-parse-dt-kinds.r ox-parse-dt.Post
ox_parse_dt_once κs a x y d e p q = p ∙ sym q

ox_in_log_once : Once 2 ox-in-log-kinds.ps ox-in-log-kinds.r ox-in-log.Post
ox_in_log_once κs a x y d e p q = p ∙ sym q

ox_in_file_once : Once 2 ox-in-file-kinds.ps ox-in-file-kinds.r ox-in-file.Post
ox_in_file_once κs a x y d e p q = p ∙ sym q

ox_same_natural_key_once : Once 2 ox-same-natural-key-kinds.ps ox-same-natural-key-kinds.r ox-same-natural-key.Post
ox_same_natural_key_once κs a x y d e p q = p ∙ sym q

ox_within_window_once : Once 2 ox-within-window-kinds.ps ox-within-window-kinds.r ox-within-window.Post
ox_within_window_once κs a x y d e p q = p ∙ sym q

ox_is_duplicate_once : Once 2 ox-is-duplicate-kinds.ps ox-is-duplicate-kinds.r ox-is-duplicate.Post
ox_is_duplicate_once κs a x y d e p q = p ∙ sym q
