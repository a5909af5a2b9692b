-- The public call's promise is met by one state of the rows. Assumes nothing.
use mathlib.Core.Path.{refl, sym, ◌∙◌}
use Rattle.index.proofs.Agree.{Agrees, agree}
use Rattle.logged.specs.contracts.find_each as find-each

find_each_once : Agrees find-each.ended (λ M 𝓤 𝓛. find-each.clauses 𝓛) (λ κs d. d.1.1.1.1.1.0.now)
find_each_once M 𝓤 𝓛 mem run κs a g x y d e = agree 𝓤 _ _ (λ p q. (refl, p ∙ sym q))
