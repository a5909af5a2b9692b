use mathlib.Core.Path.{◌≡◌, ◌∙◌}
use Prim.Native.Nat.{◌+◌, ◌*◌, ◌<◌}
use mathlib.Core.Logic.{⊎_elim}
use borrow.Author.Rules.{rules}
use native.Mathlib.Omega.{arith}
use Rattle.std.proofs.lemmas.Grind.{common_steps}
use Rattle.decimal.proofs.DecimalLaws.{none, some, low, high, more, over, done}
use Rattle.decimal.proofs.parse_digits.Goals as goal

pub returns-then-is_empty : goal.returns-then-is_empty
returns-then-is_empty c = grind (arith, common_steps, none)

pub loop-d-init : goal.loop-d-init
loop-d-init c = (search rules, grind (arith, common_steps, some))

pub returns-then-d-lt48 : goal.returns-then-d-lt48
returns-then-d-lt48 c =
    ⊎_elim
    (λ h. low _ _ _ _ c.loop-d.invariant.1 c.loop-d-test.true h)
    (λ h. high _ _ _ _ c.loop-d.invariant.1 c.loop-d-test.true h.1)
    c.then-d-lt48.either

pub returns-in_err-checked_mul : goal.returns-in_err-checked_mul
returns-in_err-checked_mul c =
    let h : c.loop-d.n * 10 < 18446744073709551616 → ⊥ = rw c.in_err-checked_mul.was at c.checked_mul.ensures in
    c.from_residual.ensures ∙ over _ _ _ _ c.loop-d.invariant.1 c.loop-d-test.true c.if-d-lt48.false c.if-d-gt57.false (omega arith)

pub returns-in_err-n : goal.returns-in_err-n
returns-in_err-n c =
    let h : c.in_ok-checked_mul.field-0 + c.from.result < 18446744073709551616 → ⊥ = rw c.in_err-n.was at c.checked_add.ensures in
    let p : c.in_ok-checked_mul.field-0 ≡ c.loop-d.n * 10 = grind (arith, common_steps) in
    let v = c.from.ensures in
    c.from_residual-in_err-n.ensures ∙ over _ _ _ _ c.loop-d.invariant.1 c.loop-d-test.true c.if-d-lt48.false c.if-d-gt57.false (omega arith)

pub loop-d-preserved : goal.loop-d-preserved
loop-d-preserved c = (search rules, grind (arith, common_steps, more))

pub returns : goal.returns
returns c = search done
