-- Leap years, and the days before a year in one sum. Assumes nothing.
use mathlib.Core.Path.{◌≡◌, refl}
use mathlib.Core.Bool.{Bool, true, false}
use Prim.Native.Nat.{ℕ, zero, suc, ◌+◌, ◌-◌, ◌*◌, ◌/◌, ◌%◌, ◌≤◌}
use native.Mathlib.Omega.{arith}
use lib.Dec.{eqb}
use borrow.Author.Tests.{eqb-true, eqb-false}
use Rattle.text.specs.Pick.{pick}
use Rattle.times.specs.Calendar.{leap, year_days, days_before_year}

-- a quotient goes up by one at the years that can be divided, and at no others
up_4 : (y : ℕ) → y % 4 ≡ 0 → (y + 4) / 4 ≡ (y + 3) / 4 + 1
up_4 y h = omega arith

on_4 : (y : ℕ) → (y % 4 ≡ 0 → ⊥) → (y + 4) / 4 ≡ (y + 3) / 4
on_4 y h = omega arith

up_100 : (y : ℕ) → y % 100 ≡ 0 → (y + 100) / 100 ≡ (y + 99) / 100 + 1
up_100 y h = omega arith

on_100 : (y : ℕ) → (y % 100 ≡ 0 → ⊥) → (y + 100) / 100 ≡ (y + 99) / 100
on_100 y h = omega arith

up_400 : (y : ℕ) → y % 400 ≡ 0 → (y + 400) / 400 ≡ (y + 399) / 400 + 1
up_400 y h = omega arith

on_400 : (y : ℕ) → (y % 400 ≡ 0 → ⊥) → (y + 400) / 400 ≡ (y + 399) / 400
on_400 y h = omega arith

next_sum : (y : ℕ) → year_days y + (y + 3) / 4 + (y + 399) / 400 + (y + 100) / 100 ≡ 365 + (y + 4) / 4 + (y + 400) / 400 + (y + 99) / 100
unfolding year_days leap
next_sum y = by (eqb (y % 4) 0) refl (eqb (y % 100) 0) refl (eqb (y % 400) 0) refl
  where
    by :
        (a : Bool) → eqb (y % 4) 0 ≡ a → (b : Bool) → eqb (y % 100) 0 ≡ b → (c : Bool) → eqb (y % 400) 0 ≡ c →
        pick (pick a (pick b c true) false) 366 365 + (y + 3) / 4 + (y + 399) / 400 + (y + 100) / 100 ≡ 365 + (y + 4) / 4 + (y + 400) / 400 + (y + 99) / 100
    by true e true f true g = rw (up_4 y (eqb-true _ _ e), up_100 y (eqb-true _ _ f), up_400 y (eqb-true _ _ g)) (omega arith)
    by true e true f false g = rw (up_4 y (eqb-true _ _ e), up_100 y (eqb-true _ _ f), on_400 y (eqb-false _ _ g)) (omega arith)
    by true e false f c g =
        let hundred : y % 100 ≡ 0 → ⊥ = eqb-false _ _ f in
        let turn : y % 400 ≡ 0 → ⊥ = λ h. hundred (omega arith) in
        rw (up_4 y (eqb-true _ _ e), on_100 y hundred, on_400 y turn) (omega arith)
    by false e b f c g =
        let four : y % 4 ≡ 0 → ⊥ = eqb-false _ _ e in
        let hundred : y % 100 ≡ 0 → ⊥ = λ h. four (omega arith) in
        let turn : y % 400 ≡ 0 → ⊥ = λ h. four (omega arith) in
        rw (on_4 y four, on_100 y hundred, on_400 y turn) (omega arith)

one_year :
    (d n y a b c a' b' c' : ℕ) → d + c ≡ y * 365 + a + b → n + a + b + c' ≡ 365 + a' + b' + c → d + n + c' ≡ suc y * 365 + a' + b'
one_year d n y a b c a' b' c' e f = omega arith

less : (d a b : ℕ) → d + a ≡ b → b - a ≡ d
less d a b e = omega arith

-- 365 days a year, and one more for each leap year: the fourth years, without the hundredth, with the four hundredth
years_sum : (y : ℕ) → days_before_year y + (y + 99) / 100 ≡ y * 365 + (y + 3) / 4 + (y + 399) / 400
unfolding days_before_year
years_sum zero = refl
years_sum (suc y) =
    let three : suc y + 3 ≡ y + 4 = omega arith in
    let most : suc y + 99 ≡ y + 100 = omega arith in
    let all : suc y + 399 ≡ y + 400 = omega arith in
    rw (three, most, all) (one_year _ _ y _ _ _ _ _ _ (years_sum y) (next_sum y))

pub years_are : (y : ℕ) → y * 365 + (y + 3) / 4 + (y + 399) / 400 - (y + 99) / 100 ≡ days_before_year y
years_are y = less _ _ _ (years_sum y)

pub years_fit : (y : ℕ) → y ≤ 9999 → y * 365 + (y + 3) / 4 + (y + 399) / 400 - (y + 99) / 100 ≤ 3659634
years_fit y h = omega arith
