-- Laws of the signs of `specs/Decimal.antt`. Assumes nothing.
use Rattle.std.specs.Prelude.{Option}
use Rattle.decimal.specs.declared.Signed.{Signed}
use mathlib.Core.Path.{◌≡◌, ap, ◌∙◌}
use Prim.Native.Nat.{ℕ, ◌-◌}
use mathlib.Core.List.{List}
use lib.ListN.{length, get_or, take, drop}
use borrow.Author.Tests.{eq-eqb, ne_eqb}
use Rattle.text.proofs.SpaceLaws.{rest}
use Rattle.decimal.specs.Decimal.{digits_of, leads, unsigned_of, above_zero, below_zero, signed_of}

module _ (s : List ℕ) (b : ℕ) (e : b ≡ get_or s 0 0) where
  module _ (r : Option ℕ) where
    pub with_plus : b ≡ 0x2B → r ≡ digits_of (take (length s - 1) (drop 1 s)) → r ≡ unsigned_of s
    unfolding unsigned_of leads
    with_plus h q = simp (← e, eq-eqb b 0x2B h) (q ∙ ap digits_of (rest s 1))

    pub without_plus : (b ≡ 0x2B → ⊥) → r ≡ digits_of s → r ≡ unsigned_of s
    unfolding unsigned_of leads
    without_plus h q = simp (← e, ne_eqb b 0x2B h) q

  module _ (n : Option ℕ) (r : Option Signed) where
    pub with_minus : b ≡ 0x2D → n ≡ digits_of (take (length s - 1) (drop 1 s)) → r ≡ below_zero n → r ≡ signed_of s
    unfolding signed_of leads
    with_minus h q p = simp (← e, eq-eqb b 0x2D h) (p ∙ ap below_zero (q ∙ ap digits_of (rest s 1)))

    pub without_minus : (b ≡ 0x2D → ⊥) → n ≡ unsigned_of s → r ≡ above_zero n → r ≡ signed_of s
    unfolding signed_of leads
    without_minus h q p = simp (← e, ne_eqb b 0x2D h) (p ∙ ap above_zero q)
