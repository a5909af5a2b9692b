-- A frequency of up to 10 ^ 12 Hz that the one call writes, the other reads as it. Assumes nothing.
use Rattle.std.specs.Prelude.{Ok}
use mathlib.Core.Path.{◌≡◌, refl, sym, ap, ◌∙◌}
use mathlib.Core.Bool.{true}
use mathlib.Core.List.{List, ◌++◌}
use Prim.Native.Nat.{ℕ, ◌+◌, ◌^◌, ◌≤◌}
use native.Mathlib.Omega.{arith}
use lib.ListN.{length, take, drop}
use lib.Seq.{sets-eq, take_at}
use Rattle.text.specs.Utf8.{valid_up_to}
use Rattle.refusals.specs.Refusals.{of_text}
use Rattle.refusals.proofs.TextLaws.{accepted}
use Rattle.mhz.specs.Reading.{read_hertz}
use Rattle.mhz.specs.Writing.{mhz_text, answer_to}
use Rattle.mhz.proofs.ReadBack.{read_back_lem, carried}
use Rattle.mhz.proofs.WriteLaws.{mhz_short, mhz_utf8}
use Rattle.ox_text.specs.Writing.{of_written}
use Rattle.ox_text.specs.declared.Written.{Written}
use Rattle.ox_mhz.specs.Frequencies.{of_hz, frequency_of, WroteMhz}
use Rattle.ox_mhz.specs.Theorems.{FrequencySurvives, RoomEnough}

pub room_enough : RoomEnough
room_enough = mhz_short

module _ (hz : ℕ) (most : hz ≤ 10 ^ 12) where
  abbrev text : List ℕ
  text = mhz_text hz

  -- the text is refused neither with 1 nor with 2
  is_text : of_text text ≡ Ok tt
  is_text = sym (accepted text (valid_up_to text) (omega (arith, mhz_short hz most)) refl (omega (arith, mhz_utf8 hz)))

  is_read : frequency_of text ≡ (record { refusal = 0; place = 0; present = true; hz = hz })
  unfolding frequency_of of_hz
  is_read = rw (is_text, read_back_lem hz most) refl

  module _ (written : Written) (was now : List ℕ) (room : length text ≤ length was) (w : WroteMhz written was now hz) where
    fits : answer_to hz 0 was ≡ Ok (length text)
    fits =
        (carried hz 0 was now (answer_to hz 0 was) (read_hertz (take (length text) (drop 0 now))) most (omega arith) (record { answer = refl; output = w.output }) refl).0
        ∙ ap Ok (omega arith)

    is_written : written ≡ (record { refusal = 0; length = length text })
    unfolding of_written
    is_written = w.answer ∙ ap of_written fits

    is_output : now ≡ text ++ drop (length text) was
    is_output =
        let e : 0 + length text ≡ length text = omega arith in
        w.output ∙ rw (fits, sets-eq text was 0 (omega arith), e) refl

pub survives : FrequencySurvives
survives hz written was now read most room w r =
    let long : written.length ≡ length (mhz_text hz) = ap (λ (x : Written). x.length) (is_written hz most written was now room w) in
    let there : now ≡ mhz_text hz ++ drop (length (mhz_text hz)) was = is_output hz most written was now room w in
    record {
      wrote = is_written hz most written was now room w;
      back = r ∙ ap frequency_of (rw (long, there) (take_at (mhz_text hz) (drop (length (mhz_text hz)) was) (length (mhz_text hz)) refl)) ∙ is_read hz most;
      output = there;
    }
