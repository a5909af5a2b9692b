-- The moment that a date and a time of day name: 8 digits, and 4 or 6 of them, white space at their ends aside. The day is one of the
-- calendar, the hours go to 23, minutes and seconds to 59. All else names no moment.
use Rattle.std.specs.Prelude.{ℕ, ◌+◌, ◌*◌, ◌/◌, ◌%◌, Bool, List, length, eqb, leb, Option, Some, None}
use Rattle.text.specs.Pick.{pick, both}
use Rattle.text.specs.Space.{trimmed}
use Rattle.decimal.specs.Decimal.{digits_of}
use Rattle.times.specs.Calendar.{is_day, day_number}

-- YYYYMMDD as a number
unfoldable pub date_of : List ℕ → Option ℕ
date_of d = pick (eqb (length d) 8) (digits_of d) None

-- HHMMSS as a number; HHMM is the minute's first second
abbrev pub hundredfold : Option ℕ → Option ℕ
hundredfold (Some n) = Some (n * 100)
hundredfold None = None

unfoldable pub clock_of : List ℕ → Option ℕ
clock_of t = pick (eqb (length t) 4) (hundredfold (digits_of t)) (pick (eqb (length t) 6) (digits_of t) None)

unfoldable pub is_clock : ℕ → ℕ → ℕ → Bool
is_clock h m s = both (leb h 23) (both (leb m 59) (leb s 59))

-- seconds since the first day of year 0
unfoldable pub seconds_of : ℕ → ℕ → ℕ → ℕ → ℕ
seconds_of day h m s = day * 86400 + h * 3600 + m * 60 + s

unfoldable pub moment_at : ℕ → ℕ → Option ℕ
moment_at date clock =
    pick (both (is_day (date / 10000) (date / 100 % 100) (date % 100)) (is_clock (clock / 10000) (clock / 100 % 100) (clock % 100)))
    (Some
    (seconds_of (day_number (date / 10000) (date / 100 % 100) (date % 100)) (clock / 10000) (clock / 100 % 100) (clock % 100)))
    None

abbrev pub moment_by : Option ℕ → Option ℕ → Option ℕ
moment_by None c = None
moment_by (Some d) None = None
moment_by (Some d) (Some c) = moment_at d c

unfoldable pub moment_of : List ℕ → List ℕ → Option ℕ
moment_of date time = moment_by (date_of (trimmed date)) (clock_of (trimmed time))
