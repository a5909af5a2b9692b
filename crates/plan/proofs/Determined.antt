-- Each public call's promise is met by one answer. Assumes nothing.
use mathlib.Core.Path.{sym, ◌∙◌}
use Rattle.text.proofs.Once.{Once}
use Rattle.plan.proofs.count_fate.Reads as count-fate
use Rattle.plan.proofs.count_fate.Kinds as count-fate-kinds
use Rattle.plan.proofs.counts_of.Reads as Counts-of
use Rattle.plan.proofs.counts_of.Kinds as counts-of-kinds

count_fate_once : Once 1 count-fate-kinds.ps count-fate-kinds.r count-fate.Post
count_fate_once κs a x y d e p q = p.0 ∙ sym q.0

counts_of_once : Once 1 counts-of-kinds.ps counts-of-kinds.r Counts-of.Post
counts_of_once κs a x y d e p q = p ∙ sym q
