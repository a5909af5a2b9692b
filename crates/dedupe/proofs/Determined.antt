-- Each public call's promise is met by one answer. Assumes nothing.
use mathlib.Core.Path.{◌≡◌, sym, ◌∙◌}
use contract.Lifetimes.{Lfts}
use denote.Triple.Clauses.{AtExit}
use borrow.Fn.Kinds.{Dens, res_t, ended_of}
use Rattle.text.proofs.Once.{Once}
use Rattle.dedupe.proofs.in_log.Reads as in-log
use Rattle.dedupe.proofs.in_log.Kinds as in-log-kinds
use Rattle.dedupe.proofs.in_file.Reads as in-file
use Rattle.dedupe.proofs.in_file.Kinds as in-file-kinds
use Rattle.dedupe.proofs.same_natural_key.Reads as same-natural-key
use Rattle.dedupe.proofs.same_natural_key.Kinds as same-natural-key-kinds
use Rattle.dedupe.proofs.same_unmatched.Reads as same-unmatched
use Rattle.dedupe.proofs.same_unmatched.Kinds as same-unmatched-kinds
use Rattle.dedupe.proofs.is_duplicate.Reads as is-duplicate
use Rattle.dedupe.proofs.is_duplicate.Kinds as is-duplicate-kinds
use Rattle.dedupe.proofs.same_cased.Reads as same-cased
use Rattle.dedupe.proofs.same_cased.Kinds as same-cased-kinds
use Rattle.dedupe.proofs.shown.Reads as shown
use Rattle.dedupe.proofs.shown.Kinds as shown-kinds
use Rattle.dedupe.proofs.moment.Reads as moment
use Rattle.dedupe.proofs.moment.Kinds as moment-kinds

same_cased_once : Once 2 same-cased-kinds.ps same-cased-kinds.r same-cased.Post
same_cased_once κs a x y d e p q = p ∙ sym q

-- the bytes that come back
shown_once : (κs : Lfts 1) (a : Dens κs shown-kinds.ps) (x y : (res_t shown-kinds.r κs).Denot) (d e : AtExit (ended_of 1 shown-kinds.ps shown-kinds.r) κs)
    → shown.Post κs a x d → shown.Post κs a y e → x.now ≡ y.now
shown_once κs a x y d e p q = p ∙ sym q

moment_once : Once 1 moment-kinds.ps moment-kinds.r moment.Post
moment_once κs a x y d e p q = p ∙ sym q

in_log_once : Once 2 in-log-kinds.ps in-log-kinds.r in-log.Post
in_log_once κs a x y d e p q = p ∙ sym q

in_file_once : Once 2 in-file-kinds.ps in-file-kinds.r in-file.Post
in_file_once κs a x y d e p q = p ∙ sym q

same_natural_key_once : Once 2 same-natural-key-kinds.ps same-natural-key-kinds.r same-natural-key.Post
same_natural_key_once κs a x y d e p q = p ∙ sym q

same_unmatched_once : Once 2 same-unmatched-kinds.ps same-unmatched-kinds.r same-unmatched.Post
same_unmatched_once κs a x y d e p q = p ∙ sym q

is_duplicate_once : Once 2 is-duplicate-kinds.ps is-duplicate-kinds.r is-duplicate.Post
is_duplicate_once κs a x y d e p q = p ∙ sym q
