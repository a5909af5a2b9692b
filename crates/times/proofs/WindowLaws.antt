-- Laws of `specs/Window.antt`. Assumes nothing.
use Rattle.std.specs.Prelude.{Option, Some}
use mathlib.Core.Path.{◌≡◌, refl}
use mathlib.Core.Bool.{Bool, true, false, true≢false}
use Prim.Native.Nat.{ℕ, ◌+◌, ◌-◌, ◌≤◌, ◌<◌}
use native.Mathlib.Omega.{arith}
use lib.IntN.{ℤ, pos, negsuc, nat_abs}
use lib.Signed.{lt_z, non_neg}
use lib.Dec.{T, leb, ltb}
use borrow.Author.Tests.{leb-true, leb-false, ltb-true, lt-ltb, le-ltb}
use mir.Syntax.{w64}
use mir.Val.{SFits, Fits, to_z, of_z}
use mir.ValLaws.{to_z-of_z}
use Rattle.times.specs.Window.{apart, reaches, is_within, limit_of}

negative : (z : ℤ) → lt_z z (pos 0) ≡ true → 0 ≡ limit_of z
unfolding limit_of
negative (pos n) e = absurd (omega (arith, ltb-true n 0 e))
negative (negsuc n) e = refl

at_least : (z : ℤ) → lt_z z (pos 0) ≡ false → SFits w64 z → (T (non_neg z) × Fits w64 (nat_abs z)) × (Fits w64 (nat_abs z + 1) × (nat_abs z + 1 ≡ limit_of z))
unfolding limit_of
at_least (pos n) e f = ((tt, record { fits = omega (arith, f.sfits) }), (record { fits = omega (arith, f.sfits) }, refl))
at_least (negsuc n) e f = absurd (true≢false e)

-- of a window as the code has it
module _ (z : ℤ) (f : SFits w64 z) where
  pub below_zero_lem : lt_z (to_z w64 (of_z w64 z)) (pos 0) ≡ true → 0 ≡ limit_of z
  below_zero_lem e = negative z (rw (to_z-of_z w64 z f) at e)

  module _ (e : lt_z (to_z w64 (of_z w64 z)) (pos 0) ≡ false) where
    whole : (T (non_neg z) × Fits w64 (nat_abs z)) × (Fits w64 (nat_abs z + 1) × (nat_abs z + 1 ≡ limit_of z))
    whole = at_least z (rw (to_z-of_z w64 z f) at e) f

    pub casts : T (non_neg (to_z w64 (of_z w64 z))) × Fits w64 (nat_abs (to_z w64 (of_z w64 z)))
    casts = rw (to_z-of_z w64 z f) whole.0

    pub adds : Fits w64 (nat_abs (to_z w64 (of_z w64 z)) + 1)
    adds = rw (to_z-of_z w64 z f) whole.1.0

    pub limit_is : nat_abs (to_z w64 (of_z w64 z)) + 1 ≡ limit_of z
    limit_is = rw (to_z-of_z w64 z f) whole.1.1

module _ (a b : ℕ) where
  pub before : a < b → b - a ≡ apart a b
  unfolding apart
  before h = omega arith

  pub after : b ≤ a → a - b ≡ apart a b
  unfolding apart
  after h = omega arith

-- below the limit is within the window
limit_reaches : (w : ℤ) (d : ℕ) → ltb d (limit_of w) ≡ reaches w d
unfolding limit_of reaches
limit_reaches (pos n) d = by (leb d n) refl
  where
    by : (t : Bool) → leb d n ≡ t → ltb d (n + 1) ≡ t
    by true e = lt-ltb d (n + 1) (omega (arith, leb-true d n e))
    by false e = le-ltb d (n + 1) (omega (arith, leb-false d n e))
limit_reaches (negsuc n) d = le-ltb d 0 (omega arith)

pub both_moments : (a b : Option ℕ) (w : ℤ) (x : ℕ) → a ≡ Some x → (y d l : ℕ) → SFits w64 w → b ≡ Some y → d ≡ apart x y
    → l ≡ limit_of (to_z w64 (of_z w64 w)) → ltb d l ≡ is_within a b w
unfolding is_within
both_moments a b w x e y d l s f p q = rw (e, f, p, q, to_z-of_z w64 w s) (limit_reaches w (apart x y))
