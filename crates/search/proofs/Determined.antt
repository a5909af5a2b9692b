-- Each public call's promise is met by one answer. Assumes nothing.
use mathlib.Core.Path.{refl, sym, ◌∙◌}
use Rattle.text.proofs.Once.{Once}
use Rattle.search.proofs.moment_from.Reads as moment-from
use Rattle.search.proofs.moment_from.Kinds as moment-from-kinds
use Rattle.search.proofs.is_near.Reads as is-near
use Rattle.search.proofs.is_near.Kinds as is-near-kinds
use Rattle.index.proofs.Agree.{Agrees, agree}
use Rattle.search.specs.contracts.find as find

moment_from_once : Once 0 moment-from-kinds.ps moment-from-kinds.r moment-from.Post
moment_from_once κs a x y d e p q = p ∙ sym q

is_near_once : Once 0 is-near-kinds.ps is-near-kinds.r is-near.Post
is_near_once κs a x y d e p q = p ∙ sym q

find_once : Agrees find.ended (λ M 𝓤 𝓛. find.clauses 𝓛) (λ κs d. tt {0})
find_once M 𝓤 𝓛 mem run κs a g x y d e = agree 𝓤 _ _ (λ p q. (p ∙ sym q, refl))
