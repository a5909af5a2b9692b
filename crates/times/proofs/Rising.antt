-- Moments rise strictly with date and time, so two different ones never share a number. Assumes nothing.
use Rattle.std.specs.Prelude.{Some, None}
use mathlib.Core.Path.{◌≡◌, refl, sym, ap}
use mathlib.Core.Bool.{Bool, true, false}
use mathlib.Core.Logic.{◌⊎◌, inl, inr, ⊎_elim}
use Prim.Native.Nat.{ℕ, zero, suc, ◌+◌, ◌-◌, ◌*◌, ◌/◌, ◌%◌, ◌≤◌, ◌<◌}
use native.Mathlib.Nat.{le_of_suc-le-suc, eq-or-lt_of_le}
use native.Mathlib.Omega.{arith}
use lib.Dec.{leb, ltb}
use borrow.Author.Tests.{leb-true, ltb-true, ltb-false}
use Rattle.text.specs.Pick.{pick, both, within}
use Rattle.text.proofs.BoolLaws.{both_left, both_right}
use Rattle.times.specs.Calendar.{leap, year_days, month_days, days_before_year, days_before_month, is_day, day_number}
use Rattle.times.specs.Moments.{is_clock, seconds_of, moment_at}

-- ---- more months and more years have no fewer days
months_rise : (l : Bool) (m n : ℕ) → m ≤ n → days_before_month l m ≤ days_before_month l n
unfolding days_before_month
months_rise l m zero h = let z : m ≡ 0 = omega arith in rw z (omega arith)
months_rise l m (suc n) h =
    ⊎_elim (λ e. rw e (omega arith)) (λ lt. omega (arith, months_rise l m n (le_of_suc-le-suc lt))) (eq-or-lt_of_le h)

years_rise : (y z : ℕ) → y ≤ z → days_before_year y ≤ days_before_year z
unfolding days_before_year
years_rise y zero h = let e : y ≡ 0 = omega arith in rw e (omega arith)
years_rise y (suc z) h =
    ⊎_elim (λ e. rw e (omega arith)) (λ lt. omega (arith, years_rise y z (le_of_suc-le-suc lt))) (eq-or-lt_of_le h)

-- the twelve months are the year
twelve : (y : ℕ) → days_before_month (leap y) 13 ≡ year_days y
unfolding days_before_month month_days year_days
twelve y = by (leap y)
  where
    by : (l : Bool) → days_before_month l 13 ≡ pick l 366 365
    by true = refl
    by false = refl

-- ---- what a day and a time of day are
record Day (y m d : ℕ) : Type 0 where
  month : (1 ≤ m) × (m ≤ 12)
  some : 1 ≤ d
  last : d ≤ month_days (leap y) m

day : (y m d : ℕ) → is_day y m d ≡ true → Day y m d
unfolding is_day
day y m d e =
    let a : within m 1 12 ≡ true = both_left (within m 1 12) (within d 1 (month_days (leap y) m)) e in
    let b : within d 1 (month_days (leap y) m) ≡ true = both_right (within m 1 12) (within d 1 (month_days (leap y) m)) e in
    record {
      month = (leb-true 1 m (both_left (leb 1 m) (leb m 12) a), leb-true m 12 (both_right (leb 1 m) (leb m 12) a));
      some = leb-true 1 d (both_left (leb 1 d) (leb d (month_days (leap y) m)) b);
      last = leb-true d (month_days (leap y) m) (both_right (leb 1 d) (leb d (month_days (leap y) m)) b);
    }

clock : (h m s : ℕ) → is_clock h m s ≡ true → (h ≤ 23) × ((m ≤ 59) × (s ≤ 59))
unfolding is_clock
clock h m s e =
    let rest : both (leb m 59) (leb s 59) ≡ true = both_right (leb h 23) (both (leb m 59) (leb s 59)) e in
    (leb-true h 23 (both_left (leb h 23) (both (leb m 59) (leb s 59)) e), (leb-true m 59 (both_left (leb m 59) (leb s 59) rest), leb-true s 59 (both_right (leb m 59) (leb s 59) rest)))

-- ---- days rise
month_end : (l : Bool) (m : ℕ) → days_before_month l m + month_days l m ≡ days_before_month l (suc m)
unfolding days_before_month
month_end l m = refl

in_month : (y m d n : ℕ) → Day y m d → m < n → days_before_month (leap y) m + (d - 1) < days_before_month (leap y) n
in_month y m d n w h = omega (arith, months_rise (leap y) (suc m) n h, month_end (leap y) m, w.some, w.last)

in_year : (y m d : ℕ) → Day y m d → days_before_month (leap y) m + (d - 1) < year_days y
in_year y m d w = omega (arith, in_month y m d 13 w (omega (arith, w.month.1)), twelve y)

year_end : (y : ℕ) → days_before_year y + year_days y ≡ days_before_year (suc y)
unfolding days_before_year
year_end y = refl

module _ (y m d y' m' d' : ℕ) (w : Day y m d) (v : Day y' m' d') where
  later_year : y < y' → day_number y m d < day_number y' m' d'
  unfolding day_number
  later_year h = omega (arith, in_year y m d w, year_end y, years_rise (suc y) y' h)

  later_month : y ≡ y' → m < m' → day_number y m d < day_number y' m' d'
  unfolding day_number
  later_month e h = rw (← e) (omega (arith, in_month y m d m' w h))

  later_day : y ≡ y' → m ≡ m' → d < d' → day_number y m d < day_number y' m' d'
  unfolding day_number
  later_day e f h = rw (← e, ← f) (omega (arith, w.some))

-- of dates as numbers, YYYYMMDD
module _ (n n' : ℕ) (w : Day (n / 10000) (n / 100 % 100) (n % 100)) (v : Day (n' / 10000) (n' / 100 % 100) (n' % 100)) where
  days_rise : n < n' → day_number (n / 10000) (n / 100 % 100) (n % 100) < day_number (n' / 10000) (n' / 100 % 100) (n' % 100)
  days_rise h = years (ltb (n / 10000) (n' / 10000)) refl
    where
      months : n / 10000 ≡ n' / 10000 → (t : Bool) → ltb (n / 100 % 100) (n' / 100 % 100) ≡ t
          → day_number (n / 10000) (n / 100 % 100) (n % 100) < day_number (n' / 10000) (n' / 100 % 100) (n' % 100)
      months e true p = later_month _ _ _ _ _ _ w v e (ltb-true (n / 100 % 100) (n' / 100 % 100) p)
      months e false p =
          let f : n / 100 % 100 ≡ n' / 100 % 100 = omega (arith, ltb-false (n / 100 % 100) (n' / 100 % 100) p) in
          later_day _ _ _ _ _ _ w v e f (omega arith)

      years : (t : Bool) → ltb (n / 10000) (n' / 10000) ≡ t
          → day_number (n / 10000) (n / 100 % 100) (n % 100) < day_number (n' / 10000) (n' / 100 % 100) (n' % 100)
      years true p = later_year _ _ _ _ _ _ w v (ltb-true (n / 10000) (n' / 10000) p)
      years false p =
          months (omega (arith, ltb-false (n / 10000) (n' / 10000) p)) (ltb (n / 100 % 100) (n' / 100 % 100)) refl

-- ---- moments rise
record Named (n c s : ℕ) : Type 0 where
  date : Day (n / 10000) (n / 100 % 100) (n % 100)
  time : (c / 10000 ≤ 23) × ((c / 100 % 100 ≤ 59) × (c % 100 ≤ 59))
  seconds : s ≡ seconds_of (day_number (n / 10000) (n / 100 % 100) (n % 100)) (c / 10000) (c / 100 % 100) (c % 100)

named : (n c s : ℕ) → moment_at n c ≡ Some s → Named n c s
unfolding moment_at
named n c s e = by (is_day (n / 10000) (n / 100 % 100) (n % 100)) (is_clock (c / 10000) (c / 100 % 100) (c % 100)) refl refl e
  where
    by : (t u : Bool) → is_day (n / 10000) (n / 100 % 100) (n % 100) ≡ t → is_clock (c / 10000) (c / 100 % 100) (c % 100) ≡ u
        → pick (both t u) (Some (seconds_of (day_number (n / 10000) (n / 100 % 100) (n % 100)) (c / 10000) (c / 100 % 100) (c % 100))) None ≡ Some s → Named n c s
    by true true p q r = record { date = day _ _ _ p; time = clock _ _ _ q; seconds = cc }
    by true false p q r = absurd (let z : ◌≡◌ {A = ℕ} 0 1 = cc in omega arith)
    by false u p q r = absurd (let z : ◌≡◌ {A = ℕ} 0 1 = cc in omega arith)

-- of times of day, HHMMSS
clocks_rise : (h m s h' m' s' : ℕ) → m ≤ 59 → s ≤ 59 → m' ≤ 59 → s' ≤ 59 → h * 10000 + m * 100 + s < h' * 10000 + m' * 100 + s'
    → h * 3600 + m * 60 + s < h' * 3600 + m' * 60 + s'
clocks_rise h m s h' m' s' a b a' b' l = hours (ltb h h') refl
  where
    minutes : h ≡ h' → (t : Bool) → ltb m m' ≡ t → h * 3600 + m * 60 + s < h' * 3600 + m' * 60 + s'
    minutes e true p = omega (arith, ltb-true m m' p)
    minutes e false p = let f : m ≡ m' = omega (arith, ltb-false m m' p) in omega arith

    hours : (t : Bool) → ltb h h' ≡ t → h * 3600 + m * 60 + s < h' * 3600 + m' * 60 + s'
    hours true p = omega (arith, ltb-true h h' p)
    hours false p = minutes (omega (arith, ltb-false h h' p)) (ltb m m') refl

module _ (n c s n' c' s' : ℕ) (w : Named n c s) (v : Named n' c' s') where
  later_date : n < n' → s < s'
  unfolding seconds_of
  later_date h = omega (arith, days_rise n n' w.date v.date h, w.seconds, v.seconds, w.time.0, w.time.1.0, w.time.1.1)

  later_time : n ≡ n' → c < c' → s < s'
  unfolding seconds_of
  later_time e h =
      let same : day_number (n / 10000) (n / 100 % 100) (n % 100) ≡ day_number (n' / 10000) (n' / 100 % 100) (n' % 100)
      = ap (λ (k : ℕ). day_number (k / 10000) (k / 100 % 100) (k % 100)) e in
      let time : c / 10000 * 3600 + c / 100 % 100 * 60 + c % 100 < c' / 10000 * 3600 + c' / 100 % 100 * 60 + c' % 100
      = clocks_rise (c / 10000) (c / 100 % 100) (c % 100) (c' / 10000) (c' / 100 % 100) (c' % 100) w.time.1.0 w.time.1.1 v.time.1.0 v.time.1.1 (omega arith) in
      omega (arith, w.seconds, v.seconds)

-- a later date, or the same date and a later time of day, is a later moment
pub moments_rise : (n c s n' c' s' : ℕ) → moment_at n c ≡ Some s → moment_at n' c' ≡ Some s' → (n < n') ⊎ ((n ≡ n') × (c < c')) → s < s'
moments_rise n c s n' c' s' e e' h =
    ⊎_elim (later_date n c s n' c' s' (named n c s e) (named n' c' s' e')) (λ p. later_time n c s n' c' s' (named n c s e) (named n' c' s' e') p.0 p.1) h

-- so one number is one date and one time of day
pub moments_differ : (n c n' c' s : ℕ) → moment_at n c ≡ Some s → moment_at n' c' ≡ Some s → (n ≡ n') × (c ≡ c')
moments_differ n c n' c' s e e' =
    let a : n < n' → ⊥ = λ h. let z : s < s = moments_rise n c s n' c' s e e' (inl h) in omega arith in
    let b : n' < n → ⊥ = λ h. let z : s < s = moments_rise n' c' s n c s e' e (inl h) in omega arith in
    let same : n ≡ n' = equal n n' a b in
    (same, equal c c' (λ h. let z : s < s = moments_rise n c s n' c' s e e' (inr (same, h)) in omega arith) (λ h. let z : s < s = moments_rise n' c' s n c s e' e (inr (sym same, h)) in omega arith))
  where
    equal : (x y : ℕ) → (x < y → ⊥) → (y < x → ⊥) → x ≡ y
    equal x y p q = by (ltb x y) (ltb y x) refl refl
      where
        by : (t u : Bool) → ltb x y ≡ t → ltb y x ≡ u → x ≡ y
        by true u f g = absurd (p (ltb-true x y f))
        by false true f g = absurd (q (ltb-true y x g))
        by false false f g = omega (arith, ltb-false x y f, ltb-false y x g)
