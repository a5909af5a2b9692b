-- The two formulas of months are the calendar's, by one computed test of all months in both kinds of year. Assumes nothing.
use mathlib.Core.Path.{◌≡◌, refl, sym, ◌∙◌}
use mathlib.Core.Bool.{Bool, true, false}
use Prim.Native.Nat.{ℕ, zero, suc, ◌+◌, ◌-◌, ◌*◌, ◌/◌, ◌%◌, ◌≤◌, ◌<◌}
use native.Mathlib.Nat.{not-suc-le-zero, le_of_suc-le-suc}
use native.Mathlib.Omega.{arith}
use lib.Dec.{eqb, leb}
use borrow.Author.Tests.{eqb-true, eq-eqb, ne_eqb, le-leb, lt-leb}
use Rattle.text.specs.Pick.{pick, both}
use Rattle.text.proofs.BoolLaws.{both_left, both_right}
use Rattle.times.specs.Calendar.{month_days, days_before_month}

-- a test of every number below n
abbrev all_below : (ℕ → Bool) → ℕ → Bool
all_below f zero = true
all_below f (suc n) = both (f zero) (all_below (λ k. f (suc k)) n)

below : (f : ℕ → Bool) (n : ℕ) → all_below f n ≡ true → (k : ℕ) → k < n → f k ≡ true
below f zero t k h = absurd (not-suc-le-zero h)
below f (suc n) t zero h = both_left (f zero) (all_below (λ k. f (suc k)) n) t
below f (suc n) t (suc k) h = below (λ k. f (suc k)) n (both_right (f zero) (all_below (λ k. f (suc k)) n) t) k (le_of_suc-le-suc h)

-- how the days of month m, and the days before it, are worked out
abbrev days_by : Bool → ℕ → ℕ
days_by l m = pick (eqb m 2) (pick l 29 28) (30 + (m + m / 8) % 2)

abbrev before_by : Bool → ℕ → ℕ
before_by l m = pick (leb m 2) (m / 2 * 31) ((m * 367 - 362) / 12 - pick l 1 2)

-- whether they are the calendar's; that month 0 has no days is not worked out
abbrev days_agree : Bool → ℕ → Bool
days_agree l m = eqb (pick (leb 1 m) (days_by l m) 0) (month_days l m)

abbrev before_agrees : Bool → ℕ → Bool
before_agrees l m = eqb (before_by l m) (days_before_month l m)

abbrev agree : Bool → ℕ → Bool
agree l m = both (days_agree l m) (before_agrees l m)

all_agree : all_below (λ m. both (agree true m) (agree false m)) 13 ≡ true
unfolding month_days days_before_month
all_agree = refl

module _ (l : Bool) (m : ℕ) (h : m ≤ 12) where
  agree_at : agree l m ≡ true
  agree_at = by l
    where
      kinds : both (agree true m) (agree false m) ≡ true
      kinds = below (λ k. both (agree true k) (agree false k)) 13 all_agree m (omega arith)

      by : (k : Bool) → agree k m ≡ true
      by true = both_left (agree true m) (agree false m) kinds
      by false = both_right (agree true m) (agree false m) kinds

  before_is : before_by l m ≡ days_before_month l m
  before_is = eqb-true (before_by l m) (days_before_month l m) (both_right (days_agree l m) (before_agrees l m) agree_at)

  pub early_before : m ≤ 2 → m / 2 * 31 ≡ days_before_month l m
  early_before e = sym (rw (le-leb m 2 e) refl) ∙ before_is

  pub early_fits : m ≤ 2 → m / 2 * 31 ≤ 335
  early_fits e = omega arith

  module _ (e : 2 < m) where
    pub leap_before : l ≡ true → (m * 367 - 362) / 12 - 1 ≡ days_before_month l m
    leap_before y = sym (rw (lt-leb m 2 e, y) refl) ∙ before_is

    pub common_before : l ≡ false → (m * 367 - 362) / 12 - 2 ≡ days_before_month l m
    common_before y = sym (rw (lt-leb m 2 e, y) refl) ∙ before_is

  module _ (p : 1 ≤ m) where
    days_are : days_by l m ≡ month_days l m
    days_are =
        sym (rw (le-leb 1 m p) refl)
        ∙ eqb-true (pick (leb 1 m) (days_by l m) 0) (month_days l m) (both_left (days_agree l m) (before_agrees l m) agree_at)

    pub other_days : (m ≡ 2 → ⊥) → 30 + (m + m / 8) % 2 ≡ month_days l m
    other_days n = sym (rw (ne_eqb m 2 n) refl) ∙ days_are

    pub leap_february : m ≡ 2 → l ≡ true → 29 ≡ month_days l m
    leap_february e y = sym (rw (eq-eqb m 2 e, y) refl) ∙ days_are

    pub common_february : m ≡ 2 → l ≡ false → 28 ≡ month_days l m
    common_february e y = sym (rw (eq-eqb m 2 e, y) refl) ∙ days_are
