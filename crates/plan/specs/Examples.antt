-- Worked examples.
use Rattle.std.specs.Prelude.{◌≡◌, refl, true, false, List, [], ◌∷◌, ℕ, pos, Option, Some, None}
use Rattle.text.specs.Ascii.{ascii}
use Rattle.text.specs.Walk.{lead}
use Rattle.text.specs.Space.{space1, space2, space3, space80, space_len, space_back, width, trim_start, trim_end, trimmed}
use Rattle.letters.specs.Capitals.{raised}
use Rattle.letters.specs.Same.{same_raised}
use Rattle.tables.specs.Place.{stands}
use Rattle.times.specs.Calendar.{leap, year_days, month_days, days_before_year, days_before_month, is_day, day_number}
use Rattle.times.specs.Moments.{date_of, clock_of, is_clock, seconds_of, moment_at, moment_of}
use Rattle.times.specs.Window.{apart, reaches, is_within}
use Rattle.decimal.specs.Decimal.{digits_after, digits_of}
use Rattle.dedupe.specs.Keys.{in_log, in_file}
use Rattle.contacts.specs.Contacts.{Contact, contact, largest}
use Rattle.chain.specs.Chain.{over}
use Rattle.search.specs.Search.{first_from}
use Rattle.confirmations.specs.Confirmations.{unanswered}
use Rattle.confirmations.specs.declared.Answer.{Answer}
use Rattle.plan.specs.Entry.{Entry}
use Rattle.plan.specs.Fates.{matches, found, fate_of, repeats, fate_at, fates_to, count}
use Rattle.plan.specs.Confirmed.{has_bit, same_unmatched, alike, counts, counted_at, new_at, old_at, new_to, already_to, unmatched_to}
use Rattle.plan.specs.Plan.{plan_from, planned, fates_of, total_of}

-- a contact in SSB on 40m, at so many seconds, with these answers
abbrev ssb : List ℕ → Option ℕ → List Answer → Entry
ssb call moment answers = record { call = call; mode = ascii "SSB"; band = ascii "40m"; moment = moment; reason = 0; answers = answers }

-- two records 1,800 seconds apart, and one without a call
abbrev three : List Entry
three =
    ssb (ascii "W1AW") (Some 5000) []
    ∷ ssb (ascii "w1aw ") (Some 6800) []
    ∷ record { call = []; mode = []; band = []; moment = None; reason = 1; answers = [] }
    ∷ []

first_is_imported : fates_of (pos 1800) false [] three ≡ 1 ∷ 3 ∷ 4 ∷ []
unfolding fates_to fate_at fate_of repeats found first_from over in_file is_within reaches apart same_raised raised trimmed trim_start trim_end lead space_len space_back width space1 space2 space3 space80
first_is_imported = refl

-- a second less, and both are
both_are_imported : fates_of (pos 1799) false [] three ≡ 1 ∷ 1 ∷ 4 ∷ []
unfolding fates_to fate_at fate_of repeats found first_from over in_file is_within reaches apart same_raised raised trimmed trim_start trim_end lead space_len space_back width space1 space2 space3 space80
both_are_imported = refl

-- a download imports nothing
download_ignores : fates_of (pos 1800) true [] three ≡ 7 ∷ 7 ∷ 4 ∷ []
unfolding fates_to fate_at fate_of found first_from
download_ignores = refl

-- what is unusable stays so, whatever it bears
unusable_first : fates_of (pos 1800) false [] (record { call = []; mode = []; band = []; moment = None; reason = 1; answers = record { present = true; service = 1; date = stands 10 8 } ∷ [] } ∷ []) ≡ 4 ∷ []
unfolding fates_to fate_at fate_of repeats found first_from over
unusable_first = refl

-- only an importable record makes a later one a duplicate: the third is within the window of the second, which is none
abbrev row : List Entry
row = ssb (ascii "W1AW") (Some 0) [] ∷ ssb (ascii "W1AW") (Some 1800) [] ∷ ssb (ascii "W1AW") (Some 3600) [] ∷ []

third_is_imported : fates_of (pos 1800) false [] row ≡ 1 ∷ 3 ∷ 1 ∷ []
unfolding fates_to fate_at fate_of repeats found first_from over in_file is_within reaches apart same_raised raised trimmed trim_start trim_end lead space_len space_back width space1 space2 space3 space80
third_is_imported = refl

-- the total is three
three_in_all : total_of (1 ∷ 3 ∷ 4 ∷ []) ≡ 3
unfolding count
three_in_all = refl

-- ---- confirmations
abbrev by : ℕ → ℕ → Answer
by service place = record { present = true; service = service; date = stands place 8 }

-- lotw and eqsl for one contact, which has eqsl already; lotw for it once more; then lotw twice for a call that the log has not
abbrev cards : List Entry
cards =
    ssb (ascii "W1AW") (Some 1) (by 1 10 ∷ by 2 20 ∷ unanswered ∷ unanswered ∷ [])
    ∷ ssb (ascii "w1aw") (Some 2) (by 1 30 ∷ unanswered ∷ unanswered ∷ unanswered ∷ [])
    ∷ ssb (ascii "K1ABC") (Some 3) (by 1 50 ∷ unanswered ∷ unanswered ∷ unanswered ∷ [])
    ∷ ssb (ascii " k1abc") (Some 90000) (by 1 70 ∷ unanswered ∷ unanswered ∷ unanswered ∷ [])
    ∷ []

-- year 0, January 1, 00:00
abbrev log : List Contact
log = contact 7 2 (ascii "w1aw") (ascii "00000101") (ascii "0000") (ascii "40m") (ascii "SSB") ∷ []

-- the log has W1AW in SSB on 40m; "W1AW " it has not
in_the_log : fates_of (pos 1800) false log (ssb (ascii "W1AW") (Some 1) [] ∷ ssb (ascii "W1AW ") (Some 1) [] ∷ []) ≡ 2 ∷ 1 ∷ []
unfolding fates_to fate_at fate_of repeats found first_from matches over in_file in_log is_within reaches apart same_raised raised trimmed trim_start trim_end lead space_len space_back width space1 space2 space3 space80 date_of clock_of is_clock seconds_of moment_at moment_of leap year_days month_days days_before_year days_before_month is_day day_number digits_after digits_of
in_the_log = refl

carded : planned (pos 1800) true log cards
    ≡ record { fates = 5 ∷ 5 ∷ 6 ∷ 6 ∷ []; reasons = 0 ∷ 0 ∷ 0 ∷ 0 ∷ []; confirmations = record { id = 7; service = 1; place = 10; len = 8 } ∷ []; already = 1; unmatched = 1; contacts = 1; largest = 7 }
unfolding planned plan_from fates_to fate_at fate_of repeats found first_from matches over in_file in_log is_within reaches apart same_raised raised trimmed trim_start trim_end lead space_len space_back width space1 space2 space3 space80 date_of clock_of is_clock seconds_of moment_at moment_of leap year_days month_days days_before_year days_before_month is_day day_number digits_after digits_of has_bit same_unmatched alike counts counted_at new_at old_at new_to already_to unmatched_to largest
carded = refl
