-- Each public call's promise is met by one answer and one output. Assumes nothing.
use mathlib.Core.Path.{sym, ◌∙◌}
use Rattle.text.proofs.Once.{OnceWith}
use Rattle.output.specs.Put.{Put}
use Rattle.show.proofs.write_plan.Reads as write-plan
use Rattle.show.proofs.write_plan.Kinds as write-plan-kinds
use Rattle.show.proofs.write_refusal.Reads as write-refusal
use Rattle.show.proofs.write_refusal.Kinds as write-refusal-kinds
use Rattle.show.proofs.write_too_long.Reads as write-too-long
use Rattle.show.proofs.write_too_long.Kinds as write-too-long-kinds

write_plan_once : OnceWith 2 write-plan-kinds.ps write-plan-kinds.r (λ κs d. d.1.1.1.1.1.0.now) write-plan.Post
unfolding Put
write_plan_once κs a x y d e p q = (p.0 ∙ sym q.0, p.1 ∙ sym q.1)

write_refusal_once : OnceWith 1 write-refusal-kinds.ps write-refusal-kinds.r (λ κs d. d.1.0.now) write-refusal.Post
unfolding Put
write_refusal_once κs a x y d e p q = (p.0 ∙ sym q.0, p.1 ∙ sym q.1)

write_too_long_once : OnceWith 1 write-too-long-kinds.ps write-too-long-kinds.r (λ κs d. d.0.now) write-too-long.Post
unfolding Put
write_too_long_once κs a x y d e p q = (p.0 ∙ sym q.0, p.1 ∙ sym q.1)
