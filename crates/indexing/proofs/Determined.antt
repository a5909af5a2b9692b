-- Each public call's promise is met by one answer. Assumes nothing.
use mathlib.Core.Path.{refl, sym, ◌∙◌}
use Rattle.text.proofs.Once.{Once}
use Rattle.indexing.proofs.listed_in.Reads as Listed-in
use Rattle.indexing.proofs.listed_in.Kinds as listed-in-kinds
use Rattle.indexing.proofs.count_in.Reads as count-in
use Rattle.indexing.proofs.count_in.Kinds as count-in-kinds
use Rattle.index.proofs.ContactLaws.{plain_once}
use Rattle.index.proofs.Agree.{Agrees, agree, agree_two}
use Rattle.indexing.specs.contracts.fill as fill
use Rattle.indexing.specs.contracts.build as build

listed_in_once : Once 1 listed-in-kinds.ps listed-in-kinds.r Listed-in.Post
listed_in_once κs a x y d e p q = p.0 ∙ sym q.0

count_in_once : Once 0 count-in-kinds.ps count-in-kinds.r count-in.Post
count_in_once κs a x y d e p q = p ∙ sym q

fill_once : Agrees fill.ended (λ M 𝓤 𝓛. fill.clauses 𝓛) (λ κs d. d.1.0.now)
fill_once M 𝓤 𝓛 mem run κs a g x y d e = agree 𝓤 _ _ (λ p q. (refl, plain_once _ _ (p ∙ sym q)))

-- the answer, and the index
build_once : Agrees build.ended (λ M 𝓤 𝓛. build.clauses 𝓛) (λ κs d. d.1.0.now)
build_once M 𝓤 𝓛 mem run κs a g x y d e = agree_two 𝓤 _ _ _ _ (λ p q. (p.0 ∙ sym q.0, plain_once _ _ (p.1 ∙ sym q.1)))
