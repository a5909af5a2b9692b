-- The promise of `plan` is met by one answer and one state of each lent table. Assumes nothing.
use mathlib.Core.Path.{sym, ◌∙◌}
use Rattle.index.proofs.ContactLaws.{plain_once}
use Rattle.index.proofs.Agree.{Agrees, agree}
use Rattle.planner.specs.contracts.plan as plan

plan_table_once : Agrees plan.ended (λ M 𝓤 𝓛. plan.clauses 𝓛) (λ κs d. d.1.1.1.1.0.now)
plan_table_once M 𝓤 𝓛 mem run κs a g x y d e = agree 𝓤 _ _ (λ p q. (p.answer ∙ sym q.answer, p.tabled ∙ sym q.tabled))

plan_index_once : Agrees plan.ended (λ M 𝓤 𝓛. plan.clauses 𝓛) (λ κs d. d.1.1.1.1.1.0.now)
plan_index_once M 𝓤 𝓛 mem run κs a g x y d e = agree 𝓤 _ _ (λ p q. (p.answer ∙ sym q.answer, plain_once _ _ (p.indexed ∙ sym q.indexed)))

plan_fates_once : Agrees plan.ended (λ M 𝓤 𝓛. plan.clauses 𝓛) (λ κs d. d.1.1.1.1.1.1.0.now)
plan_fates_once M 𝓤 𝓛 mem run κs a g x y d e = agree 𝓤 _ _ (λ p q. (p.answer ∙ sym q.answer, p.fated ∙ sym q.fated))

plan_cards_once : Agrees plan.ended (λ M 𝓤 𝓛. plan.clauses 𝓛) (λ κs d. d.1.1.1.1.1.1.1.0.now)
plan_cards_once M 𝓤 𝓛 mem run κs a g x y d e = agree 𝓤 _ _ (λ p q. (p.answer ∙ sym q.answer, p.carded ∙ sym q.carded))
