-- The answers of `specs/Answers.antt`. Assumes nothing.
use Rattle.std.specs.Prelude.{⊤, Option, Some, None, Result, Ok, Err}
use Rattle.std.specs.Option.{unwrap_or}
use mathlib.Core.Path.{◌≡◌, refl, ap, ◌∙◌}
use mathlib.Core.List.{List}
use Prim.Native.Nat.{ℕ}
use Rattle.refusals.specs.Refusals.{number_of, place_of, of_text}
use Rattle.refusals.specs.declared.Refusal.{Refusal}
use Rattle.refusals.proofs.TextLaws.{too_long}
use Rattle.columns.specs.Columns.{column_named}
use Rattle.model.specs.Answer.{normalized_to}
use Rattle.model.specs.declared.Answer.{Answer}
use Rattle.model.specs.declared.Qso.{Qso}
use Rattle.mapping.specs.Mapping.{mapped_to, normal_to}
use Rattle.ox_model.specs.Answers.{column_number, column_by, column_answer, LongRefused, refusal_of, answer_of, map_answer, map_normal_answer, normalize_answer}
use Rattle.ox_model.specs.declared.ColumnAnswer.{ColumnAnswer}
use Rattle.ox_model.specs.declared.QsoAnswer.{QsoAnswer}

number_is : (f : Option ℕ) → unwrap_or f 13 ≡ column_number f
number_is (Some k) = refl
number_is None = refl

module _ (name : List ℕ) (v : Result ⊤ Refusal) (e : v ≡ of_text name) where
  pub column_refused : (why : Refusal) (n p : ℕ) → v ≡ Err why → n ≡ number_of why → p ≡ place_of why
      → ◌≡◌ {A = ColumnAnswer} (record { refusal = n; place = p; column = 0 }) (column_answer name)
  unfolding column_answer column_by
  column_refused why n p h en ep = rw (← e, h, en, ep) refl

  pub column_accepted : (f : Option ℕ) (k : ℕ) → v ≡ Ok tt → f ≡ column_named name → k ≡ unwrap_or f 13
      → ◌≡◌ {A = ColumnAnswer} (record { refusal = 0; place = 0; column = k }) (column_answer name)
  unfolding column_answer column_by
  column_accepted f k h ef ek = rw (← e, h, ← ef, ek, number_is f) refl

long_refused : LongRefused
unfolding LongRefused column_answer column_by
long_refused name h = rw (← too_long name h) refl

pub refused_is : (v : Result ⊤ Refusal) (why : Refusal) (n : ℕ) → v ≡ Err why → n ≡ number_of why → n ≡ refusal_of v
refused_is v why n e h = rw e h

pub answer_is : (a : Answer) (n : ℕ) → n ≡ refusal_of a.verdict → ◌≡◌ {A = QsoAnswer} (record { refusal = n; qso = a.qso }) (answer_of a)
unfolding answer_of
answer_is a n e = rw e refl

pub mapped_is : (text table : List ℕ) (first count : ℕ) (a : Answer) (r : QsoAnswer) → a ≡ mapped_to text table first count → r ≡ answer_of a → r ≡ map_answer text table first count
unfolding map_answer
mapped_is text table first count a r e h = h ∙ ap answer_of e

pub normalized_is : (text : List ℕ) (q : Qso) (a : Answer) (r : QsoAnswer) → a ≡ normalized_to text q → r ≡ answer_of a → r ≡ normalize_answer text q
unfolding normalize_answer
normalized_is text q a r e h = h ∙ ap answer_of e

pub mapped_normal_is : (text table : List ℕ) (first count : ℕ) (a : Answer) (r : QsoAnswer) → a ≡ normal_to text table first count → r ≡ answer_of a → r ≡ map_normal_answer text table first count
unfolding map_normal_answer
mapped_normal_is text table first count a r e h = h ∙ ap answer_of e
