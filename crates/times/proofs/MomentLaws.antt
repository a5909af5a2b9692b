-- Laws of `specs/Moments.antt`. Assumes nothing.
use Rattle.std.specs.Prelude.{Option, Some, None}
use mathlib.Core.Path.{◌≡◌, refl, sym, ap, ◌∙◌}
use mathlib.Core.Bool.{Bool, true, false}
use mathlib.Core.List.{List, [], ◌∷◌}
use Prim.Native.Nat.{ℕ, suc, ◌+◌, ◌-◌, ◌*◌, ◌/◌, ◌%◌, ◌^◌, ◌≤◌, ◌<◌}
use native.Mathlib.Nat.{pow-succ', mul_assoc, mul-le-mul_right}
use native.Mathlib.Omega.{arith}
use lib.ListN.{length}
use lib.Dec.{eqb, leb, ltb}
use borrow.Author.Tests.{eq-eqb, ne_eqb, leb-true}
use Rattle.text.specs.Pick.{pick, both, within}
use Rattle.text.proofs.BoolLaws.{both_left, both_right}
use Rattle.decimal.specs.Decimal.{all_digits, number, digits_after, digits_of}
use Rattle.times.specs.Calendar.{leap, month_days, is_day}
use Rattle.times.specs.Moments.{date_of, hundredfold, clock_of, is_clock}
use Rattle.times.specs.Bounds.{Below}

-- ---- digits make a number below ten to their count
number_short : (n : ℕ) (ds : List ℕ) → all_digits ds ≡ true → number n ds < (n + 1) * 10 ^ length ds
number_short n [] e = omega arith
number_short n (d ∷ ds) e =
    let high : d ≤ 0x39 = leb-true d 0x39 (both_right (leb 0x30 d) (leb d 0x39) (both_left (within d 0x30 0x39) (all_digits ds) e)) in
    let rest : number (n * 10 + (d - 0x30)) ds < (n * 10 + (d - 0x30) + 1) * 10 ^ length ds
    = number_short (n * 10 + (d - 0x30)) ds (both_right (within d 0x30 0x39) (all_digits ds) e) in
    let step : (n * 10 + (d - 0x30) + 1) * 10 ^ length ds ≤ (n + 1) * 10 * 10 ^ length ds
    = mul-le-mul_right (10 ^ length ds) (omega arith) in
    let power : (n + 1) * 10 ^ suc (length ds) ≡ (n + 1) * 10 * 10 ^ length ds
    = ap (λ (p : ℕ). (n + 1) * p) (pow-succ' 10 (length ds)) ∙ sym (mul_assoc (n + 1) 10 (10 ^ length ds)) in
    rw power (omega arith)

digits_below : (ds : List ℕ) (b : ℕ) → 10 ^ length ds ≤ b → Below b (digits_of ds)
unfolding digits_of digits_after
digits_below ds b h = outer (eqb (length ds) 0)
  where
    inner : (s u : Bool) → all_digits ds ≡ s → Below b (pick (both s u) (Some (number 0 ds)) None)
    inner true true e = omega (arith, number_short 0 ds e)
    inner true false e = tt
    inner false u e = tt

    outer : (t : Bool) → Below b (pick t None (pick (both (all_digits ds) (ltb (number 0 ds) (2 ^ 64))) (Some (number 0 ds)) None))
    outer true = tt
    outer false = inner (all_digits ds) (ltb (number 0 ds) (2 ^ 64)) refl

-- a number that was read from a text of 8, 4 or 6 bytes
module _ (d : List ℕ) (r : Option ℕ) (e : r ≡ digits_of d) where
  pub eight_is : length d ≡ 8 → r ≡ date_of d
  unfolding date_of
  eight_is h = e ∙ sym (rw (eq-eqb (length d) 8 h) refl)

  pub eight_below : length d ≡ 8 → Below 100000000 r
  eight_below h = rw e (digits_below d 100000000 (rw h (omega arith)))

  pub four_below : length d ≡ 4 → Below 1000000 r
  four_below h = rw e (digits_below d 1000000 (rw h (omega arith)))

  pub four_is : (q : Option ℕ) → length d ≡ 4 → q ≡ hundredfold r → q ≡ clock_of d
  unfolding clock_of
  four_is q h f = f ∙ ap hundredfold e ∙ sym (rw (eq-eqb (length d) 4 h) refl)

  pub six_is : (length d ≡ 4 → ⊥) → length d ≡ 6 → r ≡ clock_of d
  unfolding clock_of
  six_is n h = e ∙ sym (rw (ne_eqb (length d) 4 n, eq-eqb (length d) 6 h) refl)

  pub six_below : length d ≡ 6 → Below 100000000 r
  six_below h = rw e (digits_below d 100000000 (rw h (omega arith)))

pub no_date : (d : List ℕ) → (length d ≡ 8 → ⊥) → None ≡ date_of d
unfolding date_of
no_date d n = rw (ne_eqb (length d) 8 n) refl

pub no_clock : (d : List ℕ) → (length d ≡ 4 → ⊥) → (length d ≡ 6 → ⊥) → None ≡ clock_of d
unfolding clock_of
no_clock d n m = rw (ne_eqb (length d) 4 n, ne_eqb (length d) 6 m) refl

-- what a test of a day and of a time of day tells
day_within : (y m d : ℕ) (t : Bool) → t ≡ is_day y m d → t ≡ true → m ≤ 12
unfolding is_day
day_within y m d t e h =
    leb-true m 12 (both_right (leb 1 m) (leb m 12) (both_left (within m 1 12) (within d 1 (month_days (leap y) m)) (sym e ∙ h)))

pub day_asked : (date : ℕ) (t : Bool) → date < 100000000 → t ≡ is_day (date / 10000) (date / 100 % 100) (date % 100) → t ≡ true
    → (date / 10000 ≤ 9999) × ((date / 100 % 100 ≤ 12) × (date % 100 ≤ 99))
day_asked date t b e h = (omega arith, (day_within (date / 10000) (date / 100 % 100) (date % 100) t e h, omega arith))

clock_within : (h m s : ℕ) (u : Bool) → u ≡ is_clock h m s → u ≡ true → (h ≤ 23) × ((m ≤ 59) × (s ≤ 59))
unfolding is_clock
clock_within h m s u e n =
    let all : both (leb h 23) (both (leb m 59) (leb s 59)) ≡ true = sym e ∙ n in
    let rest : both (leb m 59) (leb s 59) ≡ true = both_right (leb h 23) (both (leb m 59) (leb s 59)) all in
    (leb-true h 23 (both_left (leb h 23) (both (leb m 59) (leb s 59)) all), (leb-true m 59 (both_left (leb m 59) (leb s 59) rest), leb-true s 59 (both_right (leb m 59) (leb s 59) rest)))

pub seconds_asked : (n clock : ℕ) (u : Bool) → n ≤ 3661000 → u ≡ is_clock (clock / 10000) (clock / 100 % 100) (clock % 100) → u ≡ true
    → (n ≤ 3661000) × ((clock / 10000 ≤ 23) × ((clock / 100 % 100 ≤ 59) × (clock % 100 ≤ 59)))
seconds_asked n clock u b e h = (b, clock_within (clock / 10000) (clock / 100 % 100) (clock % 100) u e h)
