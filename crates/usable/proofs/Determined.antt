-- The public call's promise is met by one answer. Assumes nothing.
use mathlib.Core.Path.{sym, ◌∙◌}
use Rattle.text.proofs.Once.{Once}
use Rattle.usable.proofs.check.Reads as check
use Rattle.usable.proofs.check.Kinds as check-kinds

check_once : Once 3 check-kinds.ps check-kinds.r check.Post
check_once κs a x y d e p q = p ∙ sym q
