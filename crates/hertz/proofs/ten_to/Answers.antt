-- k is none of the numbers below n, so it is n or more
use Prim.Native.Nat.{ℕ, zero, suc, ◌≤◌, ◌<◌, zero-le}
use mathlib.Core.Path.{◌≡◌, sym, ap}
use native.Mathlib.Omega.{arith}
use lib.Ieee.{of_bits}
use Rattle.hertz.specs.Value.{ten_to}
use Rattle.hertz.proofs.ten_to.Goals as goal

is : (n k : ℕ) → k ≡ n → ten_to n ≡ ten_to k
is n k e = ap ten_to (sym e)

abbrev None : ℕ → ℕ → Type 0
None zero k = Unit
None (suc n) k = None n k × (k ≡ n → ⊥)

past : (n k : ℕ) → None n k → n ≤ k
past zero k p = zero-le
past (suc n) k p = next n k (past n k p.0) p.1
  where
    next : (n k : ℕ) → n ≤ k → (k ≡ n → ⊥) → suc n ≤ k
    next n k h e = omega arith

last : (k : ℕ) → 22 ≤ k → k < 23 → k ≡ 22
last k a b = omega arith

pub returns-in-0 : goal.returns-in-0
unfolding of_bits
returns-in-0 c = is 0 c.args.k (omega arith)

pub returns-in-1 : goal.returns-in-1
unfolding of_bits
returns-in-1 c = is 1 c.args.k (omega arith)

pub returns-in-2 : goal.returns-in-2
unfolding of_bits
returns-in-2 c = is 2 c.args.k (omega arith)

pub returns-in-3 : goal.returns-in-3
unfolding of_bits
returns-in-3 c = is 3 c.args.k (omega arith)

pub returns-in-4 : goal.returns-in-4
unfolding of_bits
returns-in-4 c = is 4 c.args.k (omega arith)

pub returns-in-5 : goal.returns-in-5
unfolding of_bits
returns-in-5 c = is 5 c.args.k (omega arith)

pub returns-in-6 : goal.returns-in-6
unfolding of_bits
returns-in-6 c = is 6 c.args.k (omega arith)

pub returns-in-7 : goal.returns-in-7
unfolding of_bits
returns-in-7 c = is 7 c.args.k (omega arith)

pub returns-in-8 : goal.returns-in-8
unfolding of_bits
returns-in-8 c = is 8 c.args.k (omega arith)

pub returns-in-9 : goal.returns-in-9
unfolding of_bits
returns-in-9 c = is 9 c.args.k (omega arith)

pub returns-in-10 : goal.returns-in-10
unfolding of_bits
returns-in-10 c = is 10 c.args.k (omega arith)

pub returns-in-11 : goal.returns-in-11
unfolding of_bits
returns-in-11 c = is 11 c.args.k (omega arith)

pub returns-in-12 : goal.returns-in-12
unfolding of_bits
returns-in-12 c = is 12 c.args.k (omega arith)

pub returns-in-13 : goal.returns-in-13
unfolding of_bits
returns-in-13 c = is 13 c.args.k (omega arith)

pub returns-in-14 : goal.returns-in-14
unfolding of_bits
returns-in-14 c = is 14 c.args.k (omega arith)

pub returns-in-15 : goal.returns-in-15
unfolding of_bits
returns-in-15 c = is 15 c.args.k (omega arith)

pub returns-in-16 : goal.returns-in-16
unfolding of_bits
returns-in-16 c = is 16 c.args.k (omega arith)

pub returns-in-17 : goal.returns-in-17
unfolding of_bits
returns-in-17 c = is 17 c.args.k (omega arith)

pub returns-in-18 : goal.returns-in-18
unfolding of_bits
returns-in-18 c = is 18 c.args.k (omega arith)

pub returns-in-19 : goal.returns-in-19
unfolding of_bits
returns-in-19 c = is 19 c.args.k (omega arith)

pub returns-in-20 : goal.returns-in-20
unfolding of_bits
returns-in-20 c = is 20 c.args.k (omega arith)

pub returns-in-21 : goal.returns-in-21
unfolding of_bits
returns-in-21 c = is 21 c.args.k (omega arith)

pub returns-in_default : goal.returns-in_default
unfolding of_bits
returns-in_default c = is 22 c.args.k (last c.args.k (past 22 c.args.k c.in_default.in_default-own.rest) c.requires)
