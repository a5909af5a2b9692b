-- What it means that a promise over a lent slice of structs determines its call, as `Once` of `text` says it of the others: of two
-- answers that both meet it for the same arguments each is the other, and so is what `lent` reads off the parameters as the call leaves
-- them. Assumes nothing.
use mathlib.Core.Path.{◌≡◌}
use seplogic.Ra.Ura.{Ura}
use base.Logic.{SProp, ent, sep, via, id⊢, fst∗, snd∗}
use prog.Memory.{Memory}
use prog.Routine.{Routine}
use types.Logic.{Logic}
use contract.Monad.{Fun, fact, fact_i, fact_use}
use contract.Lifetimes.{Lfts}
use denote.Triple.Entry.{Args, Res}
use denote.Triple.Clauses.{Ended, Clauses, AtExit}

module _ (T : Ended) (c : (M : Type 1) (𝓤 : Ura M) (𝓛 : Logic 𝓤) → (Memory → SProp 𝓤) → (Routine → Fun 𝓤) → Clauses 𝓤 T) where
  abbrev pub Agrees : {X : Type 0} → ((κs : Lfts T.signature.lifetimes) → AtExit T κs → X) → Type 2
  Agrees lent =
      (M : Type 1) (𝓤 : Ura M) (𝓛 : Logic 𝓤) (mem : Memory → SProp 𝓤) (run : Routine → Fun 𝓤) (κs : Lfts T.signature.lifetimes) (a : Args T.signature κs)
      (g : (c M 𝓤 𝓛 mem run κs a).ghost) (x y : Res T.signature κs) (d e : AtExit T κs)
      → ent 𝓤 (sep 𝓤 ((c M 𝓤 𝓛 mem run κs a).ensures g x d) ((c M 𝓤 𝓛 mem run κs a).ensures g y e)) (fact 𝓤 ((x ≡ y) × (lent κs d ≡ lent κs e)))

-- a promise that is a fact, or facts
module _ {M : Type 1} (𝓤 : Ura M) where
  pub both : {P Q : SProp 𝓤} (φ ψ : Type 0) → ent 𝓤 P (fact 𝓤 φ) → ent 𝓤 Q (fact 𝓤 ψ) → ent 𝓤 (sep 𝓤 P Q) (fact 𝓤 (φ × ψ))
  both {P} {Q} φ ψ h k =
      fact_use 𝓤 φ (via 𝓤 P (fst∗ 𝓤 P Q) h) (λ x. fact_use 𝓤 ψ (via 𝓤 Q (snd∗ 𝓤 P Q) k) (λ y. fact_i 𝓤 (φ × ψ) (sep 𝓤 P Q) (x, y)))

  -- one fact, two, three
  pub agree : (φ ψ : Type 0) {χ : Type 0} → (φ → ψ → χ) → ent 𝓤 (sep 𝓤 (fact 𝓤 φ) (fact 𝓤 ψ)) (fact 𝓤 χ)
  agree φ ψ {χ} f = fact_use 𝓤 (φ × ψ) (both φ ψ (id⊢ 𝓤 (fact 𝓤 φ)) (id⊢ 𝓤 (fact 𝓤 ψ))) (λ p. fact_i 𝓤 χ _ (f p.0 p.1))

  two : (φ ψ : Type 0) → ent 𝓤 (sep 𝓤 (fact 𝓤 φ) (fact 𝓤 ψ)) (fact 𝓤 (φ × ψ))
  two φ ψ = both φ ψ (id⊢ 𝓤 (fact 𝓤 φ)) (id⊢ 𝓤 (fact 𝓤 ψ))

  pub agree_two : (φ₁ φ₂ ψ₁ ψ₂ : Type 0) {χ : Type 0} → (φ₁ × φ₂ → ψ₁ × ψ₂ → χ) → ent 𝓤 (sep 𝓤 (sep 𝓤 (fact 𝓤 φ₁) (fact 𝓤 φ₂)) (sep 𝓤 (fact 𝓤 ψ₁) (fact 𝓤 ψ₂))) (fact 𝓤 χ)
  agree_two φ₁ φ₂ ψ₁ ψ₂ {χ} f =
      fact_use 𝓤 ((φ₁ × φ₂) × (ψ₁ × ψ₂)) (both (φ₁ × φ₂) (ψ₁ × ψ₂) (two φ₁ φ₂) (two ψ₁ ψ₂)) (λ p. fact_i 𝓤 χ _ (f p.0 p.1))

  pub agree_three : (φ₁ φ₂ φ₃ ψ₁ ψ₂ ψ₃ : Type 0) {χ : Type 0} → (φ₁ × (φ₂ × φ₃) → ψ₁ × (ψ₂ × ψ₃) → χ)
      → ent 𝓤 (sep 𝓤 (sep 𝓤 (fact 𝓤 φ₁) (sep 𝓤 (fact 𝓤 φ₂) (fact 𝓤 φ₃))) (sep 𝓤 (fact 𝓤 ψ₁) (sep 𝓤 (fact 𝓤 ψ₂) (fact 𝓤 ψ₃)))) (fact 𝓤 χ)
  agree_three φ₁ φ₂ φ₃ ψ₁ ψ₂ ψ₃ {χ} f =
      fact_use 𝓤 ((φ₁ × (φ₂ × φ₃)) × (ψ₁ × (ψ₂ × ψ₃)))
      (both (φ₁ × (φ₂ × φ₃)) (ψ₁ × (ψ₂ × ψ₃)) (both φ₁ (φ₂ × φ₃) (id⊢ 𝓤 (fact 𝓤 φ₁)) (two φ₂ φ₃)) (both ψ₁ (ψ₂ × ψ₃) (id⊢ 𝓤 (fact 𝓤 ψ₁)) (two ψ₂ ψ₃)))
      (λ p. fact_i 𝓤 χ _ (f p.0 p.1))
