-- Each public call's promise is met by one answer. Assumes nothing.
use mathlib.Core.Path.{sym, ◌∙◌}
use Rattle.text.proofs.Once.{Once, OnceWith}
use Rattle.output.specs.Put.{Put}
use Rattle.merge.proofs.merged_size.Reads as merged-size
use Rattle.merge.proofs.merged_size.Kinds as merged-size-kinds
use Rattle.merge.proofs.put_merged.Reads as put-merged
use Rattle.merge.proofs.put_merged.Kinds as put-merged-kinds

merged_size_once : Once 2 merged-size-kinds.ps merged-size-kinds.r merged-size.Post
merged_size_once κs a x y d e p q = p ∙ sym q

put_merged_once : OnceWith 3 put-merged-kinds.ps put-merged-kinds.r (λ κs d. d.0.now) put-merged.Post
unfolding Put
put_merged_once κs a x y d e p q = (p.0 ∙ sym q.0, p.1 ∙ sym q.1)
