-- The answers of the calls that write, as numbers.
use Rattle.refusals.specs.declared.Refusal.{Refusal}
use Rattle.std.specs.Prelude.{◌≡◌, refl, List, ℕ, length, Result, Ok}
use Rattle.refusals.specs.Written.{fitted}
use Rattle.headers.specs.Headers.{journal_header, export_header}
use Rattle.headers.specs.Answer.{answer_of, all_utf8}
use Rattle.ox_text.specs.Writing.{of_written}

unfoldable pub journal_answer : ℕ → Result ℕ Refusal
journal_answer room = fitted (Ok (length journal_header)) room

unfoldable pub export_answer : List ℕ → List ℕ → List ℕ → ℕ → Result ℕ Refusal
export_answer version program created room = answer_of (all_utf8 version program created) (export_header version program created) room

-- the journal's header takes 45 bytes
journal_fits : of_written (journal_answer 45) ≡ record { refusal = 0; length = 45 }
unfolding of_written journal_answer fitted
journal_fits = refl

journal_short : of_written (journal_answer 44) ≡ record { refusal = 13; length = 0 }
unfolding of_written journal_answer fitted
journal_short = refl
