-- The answers of the duplicate test, as numbers: on a date and a time, and on two QSOs, each over its own text.
use Rattle.std.specs.Prelude.{ℕ, Bool, true, false, List, leb, ℤ, length, ⊤, Option, Some, None, Result, Ok, Err}
use Rattle.text.specs.Pick.{pick, both}
use Rattle.refusals.specs.Refusals.{number_of, place_of, of_texts}
use Rattle.refusals.specs.declared.Refusal.{Refusal}
use Rattle.refusals.specs.declared.Refusal.TheVariants.{TooLong, BadRow}
use Rattle.columns.specs.Columns
use Rattle.model.specs.Contact.{place_of as columnOf, column_text}
use Rattle.model.specs.Answer.{is_qso}
use Rattle.model.specs.declared.Qso.{Qso}
use Rattle.times.specs.Moments.{moment_of}
use Rattle.times.specs.Window.{is_within}
use Rattle.dedupe.specs.Views.{keys_in_log, keys_in_file, keys_natural, keys_duplicate}
use Rattle.dedupe.specs.declared.Key.{Key}
use Rattle.ox_text.specs.Texts.{answer, untold_of, told_of}
use Rattle.ox_text.specs.declared.Told.{Told}
use Rattle.ox_dedupe.specs.declared.Timed.{Timed}

-- ---- the moment of a date and a time, two plain texts
unfoldable pub untimed_of : Refusal → Timed
untimed_of why = record { refusal = number_of why; place = place_of why; present = false; seconds = 0 }

unfoldable pub timed_of : Option ℕ → Timed
timed_of None = record { refusal = 0; place = 0; present = false; seconds = 0 }
timed_of (Some n) = record { refusal = 0; place = 0; present = true; seconds = n }

unfoldable pub moment_answer : List ℕ → List ℕ → Timed
moment_answer date time = answer untimed_of (timed_of (moment_of date time)) (of_texts date time)

-- the answer of a test, or why it was not made
unfoldable pub told_by : Result Bool Refusal → Told
told_by (Err why) = untold_of why
told_by (Ok said) = told_of said

-- ---- two QSOs: 1 for a text, then 11 for a QSO that is none of its text
unfoldable pub of_qsos : List ℕ → Qso → List ℕ → Qso → Result ⊤ Refusal
of_qsos a q b o =
    pick (both (leb (length a) 16777216) (leb (length b) 16777216)) (pick (both (is_qso a q) (is_qso b o)) (Ok tt) (Err BadRow))
    (Err TooLong)

unfoldable pub key_of : Qso → Key
key_of q = record { call = columnOf q Columns.call; mode = columnOf q Columns.mode; band = columnOf q Columns.band }

unfoldable pub moment_in : List ℕ → Qso → Option ℕ
moment_in text q = moment_of (column_text text q Columns.qso_date) (column_text text q Columns.time_on)

module _ (a : List ℕ) (q : Qso) (b : List ℕ) (o : Qso) where
  unfoldable pub in_log_answer : Told
  in_log_answer = answer untold_of (told_of (keys_in_log a (key_of q) b (key_of o))) (of_qsos a q b o)

  unfoldable pub in_file_answer : Told
  in_file_answer = answer untold_of (told_of (keys_in_file a (key_of q) b (key_of o))) (of_qsos a q b o)

  unfoldable pub natural_answer : Told
  natural_answer = answer untold_of (told_of (keys_natural a (key_of q) b (key_of o))) (of_qsos a q b o)

  unfoldable pub within_answer : ℤ → Told
  within_answer window = answer untold_of (told_of (is_within (moment_in a q) (moment_in b o) window)) (of_qsos a q b o)

  unfoldable pub duplicate_answer : ℤ → Told
  duplicate_answer window =
      answer untold_of (told_of (keys_duplicate a (key_of q) b (key_of o) (moment_in a q) (moment_in b o) window)) (of_qsos a q b o)
