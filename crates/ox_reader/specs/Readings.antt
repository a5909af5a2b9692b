-- The answer of the call that reads, as numbers.
use Rattle.reader.specs.declared.Reading.{Reading}
use Rattle.std.specs.Prelude.{List, ℕ, Result, Ok, Err}
use Rattle.refusals.specs.Refusals.{number_of, place_of, name_of, name_length_of, wanted_of, left_of}
use Rattle.refusals.specs.declared.Refusal.{Refusal}
use Rattle.reader.specs.Table.{answer_to}
use Rattle.ox_reader.specs.declared.ReadAnswer.{ReadAnswer}

unfoldable pub unread_of : Refusal → ReadAnswer
unread_of why =
    record {
      refusal = number_of why;
      place = place_of why;
      name = name_of why;
      name_length = name_length_of why;
      wanted = wanted_of why;
      left = left_of why;
      records = 0;
      rows = 0;
    }

unfoldable pub of_reading : Result Reading Refusal → ReadAnswer
of_reading (Ok r) =
    record { refusal = 0; place = 0; name = 0; name_length = 0; wanted = 0; left = 0; records = r.records; rows = r.rows }
of_reading (Err why) = unread_of why

unfoldable pub read_answer : List ℕ → List ℕ → ReadAnswer
read_answer text table = of_reading (answer_to text table)
