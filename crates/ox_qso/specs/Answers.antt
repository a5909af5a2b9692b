-- The answer of the call that writes a QSO, as numbers.
use Rattle.refusals.specs.declared.Refusal.{Refusal}
use Rattle.std.specs.Prelude.{◌≡◌, refl, Result, Ok, Err, ℕ}
use Rattle.refusals.specs.Refusals.{number_of}
use Rattle.refusals.specs.declared.Refusal.TheVariants.{FrequencyTooHigh}
use Rattle.model.specs.Answer.{empty_qso}
use Rattle.model.specs.declared.Qso.{Qso}
use Rattle.ox_qso.specs.declared.QsoWritten.{QsoWritten}

-- how many bytes were written, or the refusal's number; the QSO as it was
unfoldable pub of_written : Result ℕ Refusal → Qso → QsoWritten
of_written (Ok n) q = record { refusal = 0; length = n; qso = q }
of_written (Err why) q = record { refusal = number_of why; length = 0; qso = q }

too_high : of_written (Err FrequencyTooHigh) empty_qso ≡ record { refusal = 14; length = 0; qso = empty_qso }
unfolding of_written
too_high = refl
