-- Each exported call's promise is met by one answer and one state of each lent table. Assumes nothing.
use mathlib.Core.Path.{sym, ◌∙◌}
use Rattle.text.proofs.Once.{OnceWith}
use Rattle.ox_import.proofs.ox_plan_summary.Reads as ox-plan-summary
use Rattle.ox_import.proofs.ox_plan_summary.Kinds as ox-plan-summary-kinds
use Rattle.index.proofs.ContactLaws.{plain_once}
use Rattle.index.proofs.Agree.{Agrees, agree_two}
use Rattle.ox_import.specs.contracts.ox_plan as ox-plan

ox_plan_table_once : Agrees ox-plan.ended (λ M 𝓤 𝓛. ox-plan.clauses 𝓛) (λ κs d. d.1.1.1.1.0.now)
ox_plan_table_once M 𝓤 𝓛 mem run κs a g x y d e = agree_two 𝓤 _ _ _ _ (λ p q. (p.0 ∙ sym q.0, p.1.tabled ∙ sym q.1.tabled))

ox_plan_index_once : Agrees ox-plan.ended (λ M 𝓤 𝓛. ox-plan.clauses 𝓛) (λ κs d. d.1.1.1.1.1.0.now)
ox_plan_index_once M 𝓤 𝓛 mem run κs a g x y d e = agree_two 𝓤 _ _ _ _ (λ p q. (p.0 ∙ sym q.0, plain_once _ _ (p.1.indexed ∙ sym q.1.indexed)))

ox_plan_fates_once : Agrees ox-plan.ended (λ M 𝓤 𝓛. ox-plan.clauses 𝓛) (λ κs d. d.1.1.1.1.1.1.0.now)
ox_plan_fates_once M 𝓤 𝓛 mem run κs a g x y d e = agree_two 𝓤 _ _ _ _ (λ p q. (p.0 ∙ sym q.0, p.1.fated ∙ sym q.1.fated))

ox_plan_confirmations_once : Agrees ox-plan.ended (λ M 𝓤 𝓛. ox-plan.clauses 𝓛) (λ κs d. d.1.1.1.1.1.1.1.0.now)
ox_plan_confirmations_once M 𝓤 𝓛 mem run κs a g x y d e = agree_two 𝓤 _ _ _ _ (λ p q. (p.0 ∙ sym q.0, p.1.carded ∙ sym q.1.carded))

ox_plan_summary_once : OnceWith 1 ox-plan-summary-kinds.ps ox-plan-summary-kinds.r (λ κs d. d.1.0.now) ox-plan-summary.Post
ox_plan_summary_once κs a x y d e p q = (p.0 ∙ sym q.0, p.1 ∙ sym q.1)
