-- What is proved of frequencies: a whole number of hertz up to 10 ^ 12, written as megahertz, is read as that number.
use Rattle.refusals.specs.declared.Refusal.{Refusal}
use Rattle.std.specs.Prelude.{◌≡◌, List, ℕ, ◌+◌, ◌^◌, ◌≤◌, length, take, drop, Result, Ok}
use Rattle.mhz.specs.Reading.{read_hertz}
use Rattle.mhz.specs.Writing.{mhz_text, Written}
use Rattle.mhz.specs.declared.Hz.{Hz}
use Rattle.mhz.specs.declared.Hz.TheVariants.{Is}

-- so of the texts that `write` makes: of `mhz_text`, and of `formatted`, which is the Rust's
abbrev pub ReadBack : (ℕ → List ℕ) → Type 0
ReadBack write = (hz : ℕ) → hz ≤ 10 ^ 12 → read_hertz (write hz) ≡ Is hz

-- and of the two functions, by what each promises: where `hz_to_mhz_string` has room it writes, and of the bytes that it wrote
-- `mhz_string_to_hz` gives hz
abbrev pub Carried : Type 0
Carried =
    (hz at : ℕ) (was now : List ℕ) (wrote : Result ℕ Refusal) (read : Hz) → hz ≤ 10 ^ 12 → at + length (mhz_text hz) ≤ length was
    → Written wrote was now at hz → read ≡ read_hertz (take (length (mhz_text hz)) (drop at now))
    → (wrote ≡ Ok (at + length (mhz_text hz))) × (read ≡ Is hz)
