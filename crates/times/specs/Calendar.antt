-- The Gregorian calendar from year 0 on: which days there are, and how many come before each.
use Rattle.std.specs.Prelude.{ℕ, zero, suc, ◌+◌, ◌-◌, ◌%◌, Bool, true, false, [], ◌∷◌, get_or, eqb}
use Rattle.text.specs.Pick.{pick, both, within}

-- every fourth year, but of the hundredth years only every fourth
unfoldable pub leap : ℕ → Bool
leap y = pick (eqb (y % 4) 0) (pick (eqb (y % 100) 0) (eqb (y % 400) 0) true) false

unfoldable pub year_days : ℕ → ℕ
year_days y = pick (leap y) 366 365

-- the days of month m, from 1 for January, in a leap year or in a common one; no days for any other number
unfoldable pub month_days : Bool → ℕ → ℕ
month_days l m = get_or (0 ∷ 31 ∷ pick l 29 28 ∷ 31 ∷ 30 ∷ 31 ∷ 30 ∷ 31 ∷ 31 ∷ 30 ∷ 31 ∷ 30 ∷ 31 ∷ []) m 0

-- the days of all years before y, and of all months before m
unfoldable pub days_before_year : ℕ → ℕ
days_before_year zero = 0
days_before_year (suc y) = days_before_year y + year_days y

unfoldable pub days_before_month : Bool → ℕ → ℕ
days_before_month l zero = 0
days_before_month l (suc m) = days_before_month l m + month_days l m

-- a day that the calendar has
unfoldable pub is_day : ℕ → ℕ → ℕ → Bool
is_day y m d = both (within m 1 12) (within d 1 (month_days (leap y) m))

-- the number of days of the calendar before it
unfoldable pub day_number : ℕ → ℕ → ℕ → ℕ
day_number y m d = days_before_year y + days_before_month (leap y) m + (d - 1)
