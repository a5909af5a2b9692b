-- The answers of `specs/Answers.antt`. Assumes nothing.
use Rattle.std.specs.Prelude.{Result, Ok, Err}
use mathlib.Core.Path.{◌≡◌, refl, ◌∙◌}
use mathlib.Core.List.{List}
use Prim.Native.Nat.{ℕ}
use Rattle.refusals.specs.Refusals.{number_of}
use Rattle.refusals.specs.declared.Refusal.{Refusal}
use Rattle.model.specs.declared.Qso.{Qso}
use Rattle.qsowriter.specs.Writing.{written_to, answer_to}
use Rattle.qsowriter.specs.declared.WrittenQso.{WrittenQso}
use Rattle.ox_qso.specs.Answers.{of_written}
use Rattle.ox_qso.specs.declared.QsoWritten.{QsoWritten}

module _ (w : Result ℕ Refusal) (q : Qso) where
  pub written_bytes : (n : ℕ) → w ≡ Ok n → ◌≡◌ {A = QsoWritten} (record { refusal = 0; length = n; qso = q }) (of_written w q)
  unfolding of_written
  written_bytes n e = rw e refl

  pub written_not : (why : Refusal) (r : ℕ) → w ≡ Err why → r ≡ number_of why → ◌≡◌ {A = QsoWritten} (record { refusal = r; length = 0; qso = q }) (of_written w q)
  unfolding of_written
  written_not why r e h = rw (e, h) refl

pub answer_is : (text : List ℕ) (q : Qso) (t : List ℕ) (count room : ℕ) (a : WrittenQso) (r : QsoWritten) → a ≡ answer_to text q t count room → r ≡ of_written a.written a.qso
    → r ≡ of_written (written_to text q t count room) q
answer_is text q t count room a r e h = h ∙ rw e refl
