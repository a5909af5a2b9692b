-- The examples hold: each is computed. That a day which is none has no moment goes by what its time of day is. Assumes nothing.
use Rattle.std.specs.Prelude.{Option, Some, None}
use mathlib.Core.Path.{◌≡◌, refl}
use mathlib.Core.List.{List}
use Prim.Native.Nat.{ℕ}
use Rattle.text.specs.Ascii.{ascii}
use Rattle.text.specs.Run.{run}
use Rattle.text.specs.Walk.{lead, ends}
use Rattle.text.specs.Find.{other}
use Rattle.text.specs.Space.{space1, space2, space3, space80, space_len, space_back, width, trim_start, trim_end, trimmed}
use Rattle.text.specs.Utf8.{char_len, long_char, second3, second4, valid_up_to}
use Rattle.text.proofs.BoolLaws.{both_no}
use Rattle.letters.specs.Capitals.{raised}
use Rattle.letters.specs.Same.{same_raised}
use Rattle.decimal.specs.Decimal.{digits_after, digits_of, leads, unsigned_of}
use Rattle.refusals.specs.Refusals.{of_text}
use Rattle.tags.specs.Tags.{kind_of, colon_at, name_at, name_length, name_place, name_of, length_after, value_of, by_kind, tag_of, closed_at, open_at, tag_at}
use Rattle.adif.specs.Reading.{row_name, row_value, read_tags, read_text}
use Rattle.tables.specs.Bands.{bands, band_names, band_for}
use Rattle.tables.specs.Place.{value}
use Rattle.times.specs.Calendar.{leap, year_days, month_days, days_before_year, days_before_month, is_day, day_number}
use Rattle.times.specs.Moments.{date_of, clock_of, is_clock, seconds_of, moment_at, moment_by, moment_of}
use Rattle.times.specs.Window.{is_within}
use Rattle.dedupe.specs.Keys.{natural_key, duplicate}
use Rattle.examples.specs.Table.{Examples}

no_moment_by : (c : Option ℕ) → moment_by (Some 20260231) c ≡ None
unfolding moment_at is_day month_days leap
no_moment_by None = refl
no_moment_by (Some c) = refl

no_moment_at : (time : List ℕ) → moment_of (ascii "20260231") time ≡ None
unfolding moment_of date_of digits_of digits_after trimmed trim_start trim_end lead space_len space_back width space1 space2 space3 space80
no_moment_at time = no_moment_by (clock_of (trimmed time))

pub proved : Examples
unfolding lead ends other run space1 space2 space3 space80 space_len space_back width trim_start trim_end trimmed char_len long_char second3 second4 valid_up_to raised same_raised digits_after digits_of leads unsigned_of of_text kind_of colon_at name_at name_length name_place name_of length_after value_of by_kind tag_of closed_at open_at tag_at row_name row_value read_tags read_text bands band_names band_for value leap year_days month_days days_before_year days_before_month is_day day_number date_of clock_of is_clock seconds_of moment_at moment_of is_within duplicate
proved =
    record {
      empty_text = refl;
      not_closed = refl;
      two_records = refl;
      name_repeated = refl;
      tag_in_value = refl;
      plus_and_type = refl;
      torn_character = refl;
      largest_length = refl;
      length_too_large = refl;
      band_edge = refl;
      past_the_edge = refl;
      leap_day = refl;
      leap_noon = refl;
      no_day = refl;
      no_moment = no_moment_at;
      never_a_duplicate = λ call mode band call' mode' band' time other window. rw (no_moment_at time) (both_no (natural_key call mode band call' mode' band'));
    }
