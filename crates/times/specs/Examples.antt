-- Worked examples.
use Rattle.std.specs.Prelude.{◌≡◌, refl, true, false, pos, negsuc, Some, None}
use Rattle.times.specs.Calendar.{leap, month_days, days_before_year, days_before_month, is_day, day_number}
use Rattle.times.specs.Moments.{is_clock, seconds_of, moment_at}
use Rattle.times.specs.Window.{apart, reaches, is_within}

-- 20240229 is a day, and 20260231 is not; 1900 was no leap year, and 2000 was one
leap_day : is_day 2024 2 29 ≡ true
unfolding is_day month_days leap
leap_day = refl

no_day : is_day 2026 2 31 ≡ false
unfolding is_day month_days leap
no_day = refl

nineteen_hundred : leap 1900 ≡ false
unfolding leap
nineteen_hundred = refl

two_thousand : leap 2000 ≡ true
unfolding leap
two_thousand = refl

-- the first of March is the 61st day of a leap year
march : day_number 0 3 1 ≡ 60
unfolding day_number days_before_year days_before_month month_days leap
march = refl

-- the hours end at 23
no_hour : moment_at 101 240000 ≡ None
unfolding moment_at is_day month_days leap is_clock
no_hour = refl

-- year 0, January 2, 00:00:01
second_day : moment_at 102 1 ≡ Some 86401
unfolding moment_at is_day month_days leap is_clock seconds_of day_number days_before_year days_before_month
second_day = refl

-- 1800 seconds apart at a window of 1800 are within, 1801 are not; no moment is within anything, nor is anything in a window below zero
at_the_end : is_within (Some 5000) (Some 3200) (pos 1800) ≡ true
unfolding is_within reaches apart
at_the_end = refl

past_the_end : is_within (Some 3200) (Some 5001) (pos 1800) ≡ false
unfolding is_within reaches apart
past_the_end = refl

never : is_within None (Some 0) (pos 1800) ≡ false
unfolding is_within
never = refl

below_zero_lem : is_within (Some 7) (Some 7) (negsuc 0) ≡ false
unfolding is_within reaches
below_zero_lem = refl
