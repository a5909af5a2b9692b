-- The exact window, test by test. Assumes nothing.
use mathlib.Core.Path.{◌≡◌, refl, sym, ap, ◌∙◌}
use mathlib.Core.Bool.{Bool, true, false}
use Prim.Native.Nat.{ℕ, ◌≤◌, ◌<◌}
use native.Mathlib.Omega.{arith}
use lib.Ieee.{Float, neg, mul, lt, round}
use borrow.Author.Tests.{le-leb, lt-leb, ne_eqb}
use Rattle.hertz.specs.Value.{signed}
use Rattle.hertz.specs.Whole.{zero, to_hz, below_zero, rounded}
use Rattle.hertz.proofs.ValueLaws.{parsed_zero}
use Rattle.mhz.specs.Reading.{up, down, in_window, hertz_of, decimal_hertz}
use Rattle.mhz.specs.declared.Hz.TheVariants.{Is, Outside}

-- ---- zero, with either sign, is 0 Hz
signed_zero : (s : Bool) → hertz_of (signed s zero) ≡ Is 0
unfolding hertz_of signed below_zero to_hz neg mul lt rounded round
signed_zero true = refl
signed_zero false = refl

-- ---- by the digits, the exponent and the fraction digits
module _ (s : Bool) (digits fraction : ℕ) (minus : Bool) (exponent : ℕ) where
  pub zero_digits : digits ≡ 0 → Is 0 ≡ decimal_hertz s digits fraction minus exponent
  unfolding decimal_hertz in_window
  zero_digits z = rw z (sym (ap (λ (v : Float). hertz_of (signed s v)) (parsed_zero (up minus exponent) (down fraction minus exponent)) ∙ signed_zero s))

  pub many_digits : 9007199254740992 < digits → Outside ≡ decimal_hertz s digits fraction minus exponent
  unfolding decimal_hertz in_window
  many_digits h = rw (ne_eqb digits 0 (λ z. omega arith), lt-leb digits 9007199254740992 h)

  module _ (some : digits ≡ 0 → ⊥) (few : digits ≤ 9007199254740992) where
    pub far_exponent : 65535 < exponent → Outside ≡ decimal_hertz s digits fraction minus exponent
    unfolding decimal_hertz in_window
    far_exponent h = rw (ne_eqb digits 0 some, le-leb digits 9007199254740992 few, lt-leb exponent 65535 h)
