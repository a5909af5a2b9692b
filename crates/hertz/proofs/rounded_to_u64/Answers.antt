use mathlib.Core.Path.{◌≡◌, sym, subst}
use mathlib.Core.Bool.{true}
use Prim.Native.Nat.{ℕ, ◌+◌, ◌-◌, ◌/◌, ◌^◌, ◌<◌}
use native.Mathlib.Nat.{lt_of_le_of_lt, div-le_self}
use native.Mathlib.Omega.{arith}
use lib.Dec.{T}
use lib.Ieee.{Float, binary64, le, lt, of_bits, to_bits}
use Rattle.hertz.proofs.Bits.{two_to, yes, no, half, q, q_lt, is_no_nan, down_by, up_by, cut_down, cut_up, below_half, half_top}
use Rattle.hertz.proofs.rounded_to_u64.Goals as goal

over : (x : Float) → le (of_bits binary64 4602678819172646912) x ≡ true → T (le half x)
unfolding of_bits
over x h = yes h

in_range : (x : Float) → lt x (of_bits binary64 4895412794951729152) ≡ true → T (lt x (two_to 64))
unfolding of_bits
in_range x h = yes h

pub float_to_bits-bits : goal.float_to_bits-bits
float_to_bits-bits c = is_no_nan c.args.x (subst T (sym c.well_formed.0.1) tt) (over _ c.if-x.true) (in_range _ c.if-x-2.true)

pub overflow_shr-result : goal.overflow_shr-result
overflow_shr-result c = down_by c.args.x (subst T (sym c.well_formed.0.1) tt) (over _ c.if-x.true) (in_range _ c.if-x-2.true)

pub overflow_add-result : goal.overflow_add-result
overflow_add-result c = let b = to_bits binary64 c.args.x in
    let n = q c.args.x (subst T (sym c.well_formed.0.1) tt) (over _ c.if-x.true) (in_range _ c.if-x-2.true) in
    record { fits = go (n / 2 ^ (1074 - b / 2 ^ 52)) (lt_of_le_of_lt (div-le_self n (2 ^ (1074 - b / 2 ^ 52))) (q_lt c.args.x (subst T (sym c.well_formed.0.1) tt) (over _ c.if-x.true) (in_range _ c.if-x-2.true))) }
  where
    go : (r : ℕ) → r < 9007199254740992 → r + 1 < 18446744073709551616
    go r h = omega arith

pub overflow_shl-result : goal.overflow_shl-result
overflow_shl-result c = up_by c.args.x (subst T (sym c.well_formed.0.1) tt) (over _ c.if-x.true) (in_range _ c.if-x-2.true)

pub returns-then-exponent-lt1075 : goal.returns-then-exponent-lt1075
returns-then-exponent-lt1075 c = cut_down c.args.x (subst T (sym c.well_formed.0.1) tt) (over _ c.if-x.true) (in_range _ c.if-x-2.true) c.if-exponent-lt1075.true

pub returns-else-exponent-lt1075 : goal.returns-else-exponent-lt1075
returns-else-exponent-lt1075 c = cut_up c.args.x (subst T (sym c.well_formed.0.1) tt) (over _ c.if-x.true) (in_range _ c.if-x-2.true) c.if-exponent-lt1075.false

pub returns-else-x-2 : goal.returns-else-x-2
unfolding of_bits
returns-else-x-2 c = half_top c.args.x (over _ c.if-x.true) (no c.if-x-2.false)

pub returns-else-x : goal.returns-else-x
unfolding of_bits
returns-else-x c = below_half c.args.x (no c.if-x.false)
