-- Each public call's promise is met by one answer. Assumes nothing.
use mathlib.Core.Path.{sym, ◌∙◌}
use Rattle.index.proofs.ContactLaws.{plain_once}
use Rattle.index.proofs.Agree.{Agrees, agree_three}
use Rattle.lookup.specs.contracts.look_up as look_up

-- the answer, the index, and the numbers found
look_up_index_once : Agrees look_up.ended (λ M 𝓤 𝓛. look_up.clauses 𝓛) (λ κs d. d.1.1.1.0.now)
look_up_index_once M 𝓤 𝓛 mem run κs a g x y d e = agree_three 𝓤 _ _ _ _ _ _ (λ p q. (p.0 ∙ sym q.0, plain_once _ _ (p.1.0 ∙ sym q.1.0)))

look_up_found_once : Agrees look_up.ended (λ M 𝓤 𝓛. look_up.clauses 𝓛) (λ κs d. d.1.1.1.1.0.now)
look_up_found_once M 𝓤 𝓛 mem run κs a g x y d e = agree_three 𝓤 _ _ _ _ _ _ (λ p q. (p.0 ∙ sym q.0, p.1.1 ∙ sym q.1.1))
