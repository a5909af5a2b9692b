-- What a call that writes leaves: the bytes at the front of the output and nothing else changed, or, with 13, the output untouched.
use Rattle.std.specs.Prelude.{◌≡◌, List, ℕ, length, ltb, Result, Ok, Err}
use Rattle.std.proofs.lemmas.List.Edits.{sets}
use Rattle.text.specs.Pick.{pick}
use Rattle.refusals.specs.Refusals.{number_of}
use Rattle.refusals.specs.declared.Refusal.{Refusal}
use Rattle.refusals.specs.declared.Refusal.TheVariants.{ShortOutput}
use Rattle.ox_text.specs.declared.Written.{Written}

-- how many bytes were written, or the refusal's number
unfoldable pub of_written : Result ℕ Refusal → Written
of_written (Ok n) = record { refusal = 0; length = n }
of_written (Err why) = record { refusal = number_of why; length = 0 }

abbrev pub written_of : List ℕ → List ℕ → Written
written_of out w =
    pick (ltb (length out) (length w)) (record { refusal = number_of ShortOutput; length = 0 }) (record { refusal = 0; length = length w })

abbrev pub output_of : List ℕ → List ℕ → List ℕ
output_of out w = pick (ltb (length out) (length w)) out (sets out 0 w)

pub record Wrote (r : Written) (was now w : List ℕ) : Type 0 where
  pub answer : r ≡ written_of was w
  pub output : now ≡ output_of was w
