-- Worked examples, on the first day of year 0.
use Rattle.std.specs.Prelude.{◌≡◌, refl, List, [], ◌∷◌, Some, None}
use Rattle.text.specs.Ascii.{ascii}
use Rattle.text.specs.Walk.{lead}
use Rattle.text.specs.Space.{space1, space2, space3, space80, space_len, space_back, width, trim_start, trim_end, trimmed}
use Rattle.letters.specs.Capitals.{raised}
use Rattle.letters.specs.Same.{same_raised}
use Rattle.decimal.specs.Decimal.{digits_after, digits_of}
use Rattle.times.specs.Calendar.{leap, month_days, days_before_year, days_before_month, is_day, day_number}
use Rattle.times.specs.Moments as moments
use Rattle.times.specs.Window.{apart}
use Rattle.dedupe.specs.Keys.{in_log}
use Rattle.contacts.specs.Contacts.{Contact, contact}
use Rattle.search.specs.Search.{near, moment_in, matches, first_from, first_match}

-- one key at 12:00 and at 12:30
abbrev log : List Contact
log =
    contact 3 0 (ascii "W1AW") (ascii "00000101") (ascii "1200") (ascii "40m") (ascii "SSB")
    ∷ contact 8 0 (ascii "W1AW") (ascii "00000101") (ascii "1230") (ascii "40m") (ascii "SSB")
    ∷ []

-- at 12:30 both are within 1800 seconds, of which the limit is 1801, and the first is given; within 1799 seconds only the second
both_near : first_match (ascii "w1aw") (ascii "SSB") (ascii "40m") (Some 45000) 1801 log ≡ 1
unfolding first_match first_from matches moment_in near in_log same_raised raised apart moments.moment_of moments.date_of moments.clock_of moments.is_clock moments.seconds_of moments.moment_at leap month_days days_before_year days_before_month is_day day_number digits_after digits_of lead space1 space2 space3 space80 space_len space_back width trim_start trim_end trimmed
both_near = refl

second_near : first_match (ascii "w1aw") (ascii "SSB") (ascii "40m") (Some 45000) 1800 log ≡ 2
unfolding first_match first_from matches moment_in near in_log same_raised raised apart moments.moment_of moments.date_of moments.clock_of moments.is_clock moments.seconds_of moments.moment_at leap month_days days_before_year days_before_month is_day day_number digits_after digits_of lead space1 space2 space3 space80 space_len space_back width trim_start trim_end trimmed
second_near = refl

-- the call is not trimmed, the mode's case counts, and what has no moment matches nothing
untrimmed : first_match (ascii "W1AW ") (ascii "SSB") (ascii "40m") (Some 45000) 1801 log ≡ 0
unfolding first_match first_from matches in_log same_raised raised
untrimmed = refl

other_case : first_match (ascii "W1AW") (ascii "ssb") (ascii "40m") (Some 45000) 1801 log ≡ 0
unfolding first_match first_from matches in_log same_raised raised
other_case = refl

no_moment : first_match (ascii "W1AW") (ascii "SSB") (ascii "40m") None 1801 log ≡ 0
unfolding first_match first_from matches in_log same_raised raised near
no_moment = refl
