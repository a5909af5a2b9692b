-- The answers of the calls on frequencies, as numbers.
use Rattle.std.specs.Prelude.{◌≡◌, true, false, List, ℕ}
use Rattle.refusals.specs.Refusals.{number_of, place_of, of_text}
use Rattle.refusals.specs.declared.Refusal.{Refusal}
use Rattle.refusals.specs.declared.Refusal.TheVariants.{InexactFrequency}
use Rattle.mhz.specs.Reading.{read_hertz}
use Rattle.mhz.specs.Writing.{answer_to, output_by}
use Rattle.mhz.specs.declared.Hz.{Hz}
use Rattle.mhz.specs.declared.Hz.TheVariants.{Absent, Is, Outside}
use Rattle.ox_text.specs.Texts.{answer}
use Rattle.ox_text.specs.Writing.{of_written}
use Rattle.ox_mhz.specs.declared.Frequency.{Frequency}
use Rattle.ox_text.specs.declared.Written.{Written}

unfoldable pub untuned_of : Refusal → Frequency
untuned_of why = record { refusal = number_of why; place = place_of why; present = false; hz = 0 }

-- a number outside the exact window is refusal 15
unfoldable pub of_hz : Hz → Frequency
unfolding untuned_of
of_hz Absent = record { refusal = 0; place = 0; present = false; hz = 0 }
of_hz (Is n) = record { refusal = 0; place = 0; present = true; hz = n }
of_hz Outside = untuned_of InexactFrequency

unfoldable pub frequency_of : List ℕ → Frequency
frequency_of text = answer untuned_of (of_hz (read_hertz text)) (of_text text)

-- a frequency that is too high is refusal 14, an output that is too short 13
pub record WroteMhz (r : Written) (was now : List ℕ) (hz : ℕ) : Type 0 where
  pub answer : r ≡ of_written (answer_to hz 0 was)
  pub output : now ≡ output_by (answer_to hz 0 was) hz 0 was
