-- Hertz written as megahertz.
use Rattle.refusals.specs.declared.Refusal.TheVariants.{FrequencyTooHigh}
use Rattle.refusals.specs.declared.Refusal.TheVariants.{ShortOutput}
use Rattle.refusals.specs.declared.Refusal.{Refusal}
use Rattle.std.specs.Prelude.{◌≡◌, List, ◌∷◌, ◌++◌, ℕ, ◌+◌, ◌/◌, ◌%◌, pos, length, leb, Result, Ok, Err}
use Rattle.std.proofs.lemmas.List.Edits.{sets}
use Rattle.std.specs.Float.{binary64}
use Rattle.std.specs.Float.Ieee.{div, of_int}
use Rattle.text.specs.Pick.{pick}
use Rattle.decimal.specs.Digits.{decimal}
use Rattle.hertz.specs.Whole.{million, millionths}
use Rattle.mhz.specs.Digits.{last_digits}

-- n millionths in decimal: the whole part, a point, six digits
unfoldable pub six_decimals : ℕ → List ℕ
six_decimals n = decimal (n / 1000000) ++ (0x2E ∷ last_digits 6 (n % 1000000))

-- whole megahertz, a point, six digits
abbrev pub mhz_text : ℕ → List ℕ
mhz_text hz = six_decimals hz

-- what the Rust writes, `format!("{:.6}", hz as f64 / 1_000_000.0)`
unfoldable pub formatted : ℕ → List ℕ
formatted hz = six_decimals (millionths (div binary64 (of_int binary64 (pos hz)) million))

-- the text written at `at` into the output `out`: refused with 14 from 8,589,934,592,000,000 Hz on, then with 13 where it does not fit
unfoldable pub answer_to : ℕ → ℕ → List ℕ → Result ℕ Refusal
answer_to hz at out =
    pick (leb 8589934592000000 hz) (Err FrequencyTooHigh) (pick (leb (at + length (mhz_text hz)) (length out)) (Ok (at + length (mhz_text hz))) (Err ShortOutput))

abbrev pub output_by : Result ℕ Refusal → ℕ → ℕ → List ℕ → List ℕ
output_by (Ok next) hz at out = sets out at (mhz_text hz)
output_by (Err why) hz at out = out

pub record Written (r : Result ℕ Refusal) (was now : List ℕ) (at hz : ℕ) : Type 0 where
  pub answer : r ≡ answer_to hz at was
  pub output : now ≡ output_by (answer_to hz at was) hz at was
