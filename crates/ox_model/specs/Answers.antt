-- The answers of mapping and normalising, and of the columns' names, as numbers.
use Rattle.refusals.specs.declared.Refusal.{Refusal}
use Rattle.std.specs.Prelude.{◌≡◌, List, ℕ, ◌<◌, length, ⊤, Option, Some, None, Result, Ok, Err}
use Rattle.refusals.specs.Refusals.{number_of, place_of, of_text}
use Rattle.columns.specs.Columns.{column_named}
use Rattle.model.specs.Answer.{normalized_to}
use Rattle.model.specs.declared.Answer.{Answer}
use Rattle.model.specs.declared.Qso.{Qso}
use Rattle.mapping.specs.Mapping.{mapped_to, normal_to}
use Rattle.ox_model.specs.declared.ColumnAnswer.{ColumnAnswer}
use Rattle.ox_model.specs.declared.QsoAnswer.{QsoAnswer}

-- 13 for no column
abbrev pub column_number : Option ℕ → ℕ
column_number (Some k) = k
column_number None = 13

-- by the verdict on the name: its refusal with the place, or the column
unfoldable pub column_by : Result ⊤ Refusal → Option ℕ → ColumnAnswer
column_by (Err why) found = record { refusal = number_of why; place = place_of why; column = 0 }
column_by (Ok tt) found = record { refusal = 0; place = 0; column = column_number found }

unfoldable pub column_answer : List ℕ → ColumnAnswer
column_answer name = column_by (of_text name) (column_named name)

-- a name above 16,777,216 bytes is refused with 1, whatever its bytes are
unfoldable pub LongRefused : Type 0
LongRefused = (name : List ℕ) → 16777216 < length name → column_answer name ≡ record { refusal = 1; place = 0; column = 0 }

-- 0 for no refusal
abbrev pub refusal_of : Result ⊤ Refusal → ℕ
refusal_of (Ok tt) = 0
refusal_of (Err why) = number_of why

unfoldable pub answer_of : Answer → QsoAnswer
answer_of a = record { refusal = refusal_of a.verdict; qso = a.qso }

unfoldable pub map_answer : List ℕ → List ℕ → ℕ → ℕ → QsoAnswer
map_answer text table first count = answer_of (mapped_to text table first count)

unfoldable pub map_normal_answer : List ℕ → List ℕ → ℕ → ℕ → QsoAnswer
map_normal_answer text table first count = answer_of (normal_to text table first count)

unfoldable pub normalize_answer : List ℕ → Qso → QsoAnswer
normalize_answer text q = answer_of (normalized_to text q)
