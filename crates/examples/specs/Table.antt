-- The checked examples of docs/SCOPE.md, those that are to be proved, line by line. `read_text` is what `ox_read` is proved to read, `band_for` the
-- band of `ox_band_for_freq_hz`, `moment_of` the moment of `ox_parse_dt` and `duplicate` the test of `ox_is_duplicate`.
use Rattle.std.specs.Prelude.{◌≡◌, true, false, List, [], ◌∷◌, ◌++◌, map, ℕ, ℤ, Some, None, Option}
use Prim.Native.String.{String}
use Rattle.text.specs.Ascii.{ascii}
use Rattle.adif.specs.Records.{Outcome, records, refused}
use Rattle.adif.specs.Grammar.{Field, Why, why_of}
use Rattle.adif.specs.Reading.{RowsRead, read_text}
use Rattle.adif.specs.Told.{field_of, told_by}
use Rattle.tables.specs.Bands.{band_for}
use Rattle.tables.specs.Place.{value, band_place}
use Rattle.times.specs.Calendar.{is_day}
use Rattle.times.specs.Moments.{moment_of}
use Rattle.dedupe.specs.Keys.{duplicate}

-- a field with this name and this value
infixl 80 ◌is◌
abbrev pub ◌is◌ : String → String → Field
name is value = record { name = ascii name; value = ascii value }

-- what a text reads as, with room for 256 rows: the names and values of its records, or why it is refused
abbrev pub said : List ℕ → RowsRead → Outcome Field Why
said text (records rs) = records (map (map (field_of text)) rs)
said text (refused w) = refused (told_by text w)

abbrev pub reads : List ℕ → Outcome Field Why
reads text = said text (read_text text 256)

-- the name of a frequency's band
abbrev pub band_name : ℕ → Option (List ℕ)
band_name hz = value [] (band_place (band_for hz))

pub record Examples : Type 0 where
  -- no records
  pub empty_text : reads (ascii "") ≡ records []
  pub not_closed : reads (ascii "<CALL:1>A") ≡ records []
  -- two
  pub two_records : reads (ascii "<CALL:1>A<EOR><CALL:1>B") ≡ records (("CALL" is "A" ∷ []) ∷ ("CALL" is "B" ∷ []) ∷ [])
  -- CALL=B
  pub name_repeated : reads (ascii "<call:1>A<CALL:1>B<EOR>") ≡ records (("CALL" is "B" ∷ []) ∷ [])
  -- NOTE=<EOR>
  pub tag_in_value : reads (ascii "<NOTE:5><EOR><EOR>") ≡ records (("NOTE" is "<EOR>" ∷ []) ∷ [])
  -- A=xy
  pub plus_and_type : reads (ascii "<A:+02:S>xy<EOR>") ≡ records (("A" is "xy" ∷ []) ∷ [])
  -- 7: the value ends inside é
  pub torn_character : reads (ascii "<A:1>" ++ (0xC3 ∷ 0xA9 ∷ ascii "<EOR>")) ≡ refused (why_of 7 (ascii "A"))
  -- 6, left 1; one more: 5
  pub largest_length : reads (ascii "<A:18446744073709551615>x") ≡ refused (record { number = 6; name = ascii "A"; wanted = 18446744073709551615; left = 1 })
  pub length_too_large : reads (ascii "<A:18446744073709551616>x") ≡ refused (why_of 5 (ascii "A"))
  -- 7300000 Hz: 40m; 7300001: none
  pub band_edge : band_name 7300000 ≡ Some (ascii "40m")
  pub past_the_edge : band_name 7300001 ≡ None
  -- 20240229 is a day; noon on it is so many seconds after year 0 began
  pub leap_day : is_day 2024 2 29 ≡ true
  pub leap_noon : moment_of (ascii "20240229") (ascii "1200") ≡ Some 63876427200
  -- 20260231 isn't, so it is never a duplicate
  pub no_day : is_day 2026 2 31 ≡ false
  pub no_moment : (time : List ℕ) → moment_of (ascii "20260231") time ≡ None
  pub never_a_duplicate : (call mode band call' mode' band' time : List ℕ) (other : Option ℕ) (window : ℤ)
      → duplicate call mode band call' mode' band' (moment_of (ascii "20260231") time) other window ≡ false
