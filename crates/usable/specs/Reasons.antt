-- Why a record, mapped and normalised, is unusable: the first reason that applies, after `check` of `import.rs`, or 0. The bar is low:
-- a date of 8 digits is enough, even where the calendar has no such day.
use Rattle.std.specs.Prelude.{◌≡◌, refl, Bool, true, false, List, [], ℕ}
use Rattle.text.specs.Pick.{pick}
use Rattle.text.specs.Ascii.{ascii}
use Rattle.text.specs.Walk.{lead}
use Rattle.text.specs.Space.{space1, space2, space3, space80, space_len, space_back, width, trim_start, trim_end, trimmed, blank}
use Rattle.contacts.specs.Contacts.{is_date, is_time}
use Rattle.columns.specs.Columns.{call, qso_date, time_on, mode}
use Rattle.model.specs.Contact.{column_text}
use Rattle.model.specs.declared.Qso.{Qso}

-- 1 no CALL, 2 date, 3 time, 4 no MODE, 5 a frequency outside the exact window
unfoldable pub reason_by : Bool → Bool → Bool → Bool → Bool → ℕ
reason_by noCall dated timed noMode inexact = pick noCall 1 (pick dated (pick timed (pick noMode 4 (pick inexact 5 0)) 3) 2)

-- of the texts of call, date, time and mode, with what the mapping said of the frequencies
unfoldable pub reason_of : List ℕ → List ℕ → List ℕ → List ℕ → Bool → ℕ
reason_of call date time mode inexact = reason_by (blank call) (is_date (trimmed date)) (is_time (trimmed time)) (blank mode) inexact

-- of a QSO over a text
unfoldable pub reason_in : List ℕ → Qso → Bool → ℕ
reason_in text q inexact = reason_of (column_text text q call) (column_text text q qso_date) (column_text text q time_on) (column_text text q mode) inexact

-- ---- worked examples
-- no CALL comes before all else, and a frequency after all else
no_call : reason_of (ascii " ") [] [] [] true ≡ 1
unfolding reason_of reason_by blank trim_start lead space_len width space1 space2 space3
no_call = refl

-- 20260231 is no day, but a date; the time has 4 digits, or 6, white space aside
no_day : reason_of (ascii "W1AW") (ascii "20260231") (ascii " 1200 ") (ascii "SSB") false ≡ 0
unfolding reason_of reason_by is_date is_time blank trimmed trim_start trim_end lead space_len space_back width space1 space2 space3 space80
no_day = refl

five_digits : reason_of (ascii "W1AW") (ascii "20260231") (ascii "12000") (ascii "") true ≡ 3
unfolding reason_of reason_by is_date is_time blank trimmed trim_start trim_end lead space_len space_back width space1 space2 space3 space80
five_digits = refl

mode_before_frequency : reason_of (ascii "W1AW") (ascii "20260301") (ascii "1200") [] true ≡ 4
unfolding reason_of reason_by is_date is_time blank trimmed trim_start trim_end lead space_len space_back width space1 space2 space3 space80
mode_before_frequency = refl
