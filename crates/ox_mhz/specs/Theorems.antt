-- What is proved of the two calls together: a whole number of hertz up to 10 ^ 12 survives them.
use Rattle.std.specs.Prelude.{◌≡◌, true, List, ◌++◌, ℕ, ◌^◌, ◌≤◌, length, take, drop}
use Rattle.mhz.specs.Writing.{mhz_text}
use Rattle.ox_text.specs.declared.Written.{Written}
use Rattle.ox_mhz.specs.Frequencies.{frequency_of, WroteMhz}
use Rattle.ox_mhz.specs.declared.Frequency.{Frequency}

-- hz is written, and read back as hz; behind it the output holds what it held
pub record Survived (hz : ℕ) (written : Written) (was now : List ℕ) (read : Frequency) : Type 0 where
  pub wrote : written ≡ (record { refusal = 0; length = length (mhz_text hz) })
  pub back : read ≡ (record { refusal = 0; place = 0; present = true; hz = hz })
  pub output : now ≡ mhz_text hz ++ drop (length (mhz_text hz)) was

-- by what the calls promise: `ox_hz_to_mhz` with an output that has room, and `ox_mhz_to_hz` of the bytes that it wrote
abbrev pub FrequencySurvives : Type 0
FrequencySurvives =
    (hz : ℕ) (written : Written) (was now : List ℕ) (read : Frequency) → hz ≤ 10 ^ 12 → length (mhz_text hz) ≤ length was
    → WroteMhz written was now hz → read ≡ frequency_of (take written.length now) → Survived hz written was now read

-- 14 bytes are room enough
abbrev pub RoomEnough : Type 0
RoomEnough = (hz : ℕ) → hz ≤ 10 ^ 12 → length (mhz_text hz) ≤ 14
