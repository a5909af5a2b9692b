-- What rows and refusals of a reading tell, by the text that their places are in.
use Rattle.std.specs.Prelude.{List, ℕ}
use Rattle.letters.specs.Capitals.{capitals}
use Rattle.refusals.specs.Refusals.{number_of, name_of, name_length_of, wanted_of, left_of}
use Rattle.refusals.specs.declared.Refusal.{Refusal}
use Rattle.adif.specs.Grammar.{Field, Why}
use Rattle.adif.specs.Reading.{Row, part, row_name, row_value}

-- the field that a row stands for
abbrev pub field_of : List ℕ → Row → Field
field_of s r = record { name = row_name s r; value = row_value s r }

abbrev pub told_by : List ℕ → Refusal → Why
told_by s w = record { number = number_of w; name = capitals (part s (name_of w) (name_length_of w)); wanted = wanted_of w; left = left_of w }
