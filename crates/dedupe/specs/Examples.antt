-- Worked examples.
use Rattle.std.specs.Prelude.{◌≡◌, refl, true, false}
use Rattle.text.specs.Ascii.{ascii}
use Rattle.text.specs.Space.{space1, space2, space3, space80, space_len, space_back, width, trim_start, trim_end, trimmed}
use Rattle.text.specs.Walk.{lead}
use Rattle.letters.specs.Capitals.{raised}
use Rattle.letters.specs.Same.{same_raised}
use Rattle.dedupe.specs.Keys.{in_log, in_file, natural_key, unmatched}

-- "w1aw" is in the log as "W1AW"; "W1AW " is not, nor is a band in capitals
any_case : in_log (ascii "w1aw") (ascii "SSB") (ascii "40m") (ascii "W1AW") (ascii "SSB") (ascii "40m") ≡ true
unfolding in_log same_raised raised
any_case = refl

untrimmed : in_log (ascii "W1AW ") (ascii "SSB") (ascii "40m") (ascii "W1AW") (ascii "SSB") (ascii "40m") ≡ false
unfolding in_log same_raised raised
untrimmed = refl

exact_band : in_log (ascii "W1AW") (ascii "SSB") (ascii "40M") (ascii "W1AW") (ascii "SSB") (ascii "40m") ≡ false
unfolding in_log same_raised raised
exact_band = refl

-- in the file white space does not count, on either side
trimmed_in_file : in_file (ascii "W1AW ") (ascii "SSB") (ascii " 40m") (ascii "w1aw") (ascii "SSB") (ascii "40m") ≡ true
unfolding in_file same_raised raised trimmed trim_start trim_end lead space_len space_back width space1 space2 space3 space80
trimmed_in_file = refl

-- the natural key trims the second call, not the first
second_trimmed : natural_key (ascii "W1AW") (ascii "SSB") (ascii "40m") (ascii " w1aw") (ascii "SSB") (ascii "40m") ≡ true
unfolding natural_key same_raised raised trimmed trim_start trim_end lead space_len space_back width space1 space2 space3 space80
second_trimmed = refl

first_untrimmed : natural_key (ascii " W1AW") (ascii "SSB") (ascii "40m") (ascii "w1aw") (ascii "SSB") (ascii "40m") ≡ false
unfolding natural_key same_raised raised trimmed trim_start trim_end lead space_len space_back width space1 space2 space3 space80
first_untrimmed = refl

-- of confirmations that match no contact the calls are trimmed, the modes are not
calls_trimmed : unmatched (ascii " W1AW") (ascii "SSB") (ascii "40m") (ascii "w1aw ") (ascii "SSB") (ascii "40m") ≡ true
unfolding unmatched same_raised raised trimmed trim_start trim_end lead space_len space_back width space1 space2 space3 space80
calls_trimmed = refl

mode_untrimmed : unmatched (ascii "W1AW") (ascii "SSB ") (ascii "40m") (ascii "w1aw") (ascii "SSB") (ascii "40m") ≡ false
unfolding unmatched same_raised raised trimmed trim_start trim_end lead space_len space_back width space1 space2 space3 space80
mode_untrimmed = refl
