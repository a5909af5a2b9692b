-- The public call's promise is met by one answer. Assumes nothing.
use mathlib.Core.Path.{sym, ◌∙◌}
use Rattle.text.proofs.Once.{Once}
use Rattle.confirmations.proofs.confirmations_in.Reads as confirmations-in
use Rattle.confirmations.proofs.confirmations_in.Kinds as confirmations-in-kinds

confirmations_in_once : Once 2 confirmations-in-kinds.ps confirmations-in-kinds.r confirmations-in.Post
confirmations_in_once κs a x y d e p q = p ∙ sym q
