-- The round trip of the code, from the writer's and the reader's own promises. Assumes nothing.
use Rattle.std.specs.Prelude.{Result, Ok, Err}
use Rattle.reader.specs.declared.Reading.{Reading}
use mathlib.Core.Path.{◌≡◌, refl, sym, ap, ◌∙◌}
use mathlib.Core.List.{List, [], ◌∷◌, ◌++◌}
use Prim.Native.Nat.{ℕ, ◌/◌, ◌≤◌}
use native.Mathlib.Omega.{arith}
use lib.ListN.{length, take, length-take}
use Rattle.refusals.specs.declared.Refusal.{Refusal}
use Rattle.adif.specs.Grammar.{Field}
use Rattle.adif.specs.Reading.{read_text}
use Rattle.reader.specs.Table.{answer_to, table_after}
use Rattle.writer.specs.Rows.{rows_of, records_of}
use Rattle.writer.specs.Answer.{answer_of, output_of}
use Rattle.trip.specs.File.{Front, bare, front_text, Fit}
use Rattle.trip.proofs.Trip.{Fits, rows_fit}
use Rattle.trip.proofs.Promised.{taken, text_small, bytes_few, trip_promised}
use Rattle.roundtrip.specs.Trip.{trip_of, table_of, SaysSame}
use Rattle.roundtrip.proofs.TableLaws.{AllSome, records_total, answer_is, says_again}

all_some : (rs : List (List Field)) → Fits rs → AllSome rs
all_some [] w = tt
all_some (r ∷ rs) w = (w.0.some, all_some rs w.2)

-- what the writer promises, where it wrote n bytes
module _ (text rows : List ℕ) (count : ℕ) (was : List ℕ) (answer : Result ℕ Refusal) (out : List ℕ)
    (a : answer ≡ answer_of text rows count (length was)) (o : out ≡ output_of text rows count was) (n : ℕ) (wrote : answer ≡ Ok n) where
  abbrev R : List (List Field)
  R = records_of text (rows_of rows count)

  some : AllSome R
  some = all_some R (rows_fit text (text_small text rows count was answer out a o n wrote) (rows_of rows count) (taken text rows count was answer out a o n wrote))

  -- behind a front, and what the reader promises of a table with a row for each field: it answers with the number of records, and its
  -- table says the records of the rows that were written
  module _ (front : Front) (b : Fit front) (s : List ℕ) (e : s ≡ front_text front ++ take n out) (l : length s ≤ 16777216)
      (table : List ℕ) (enough : count ≤ length table / 5) (reading : Result Reading Refusal) (after : List ℕ) (p : reading ≡ answer_to s table) (q : after ≡ table_after s table) where
    pub carried_answer : reading ≡ Ok (record { records = length R; rows = count })
    carried_answer =
        p ∙ answer_is s table R some (trip_promised text rows count was answer out a o n wrote front b s e l (length table / 5) (rw (records_total text rows count) enough) (read_text s (length table / 5)) refl)
        ∙ ap (λ z. Ok (record { records = length R; rows = z })) (records_total text rows count)

    pub carried : records_of s (rows_of after count) ≡ R
    carried =
        ap (λ (k : ℕ). records_of s (rows_of after k)) (sym (records_total text rows count))
        ∙ rw q (says_again s table R some (trip_promised text rows count was answer out a o n wrote front b s e l (length table / 5) (rw (records_total text rows count) enough) (read_text s (length table / 5)) refl))

  -- ---- the function that writes and reads
  pub in_output : n ≤ length out
  in_output = (bytes_few text rows count was answer out a o n wrote).1

  module _ (table : List ℕ) (reading : Result Reading Refusal) (after : List ℕ) (p : reading ≡ answer_to (take n out) table) (q : after ≡ table_after (take n out) table) where
    pub back_is : Ok reading ≡ trip_of text rows count was table
    unfolding trip_of
    back_is = rw (← a, wrote, ← o, p) refl

    pub back_table : after ≡ table_of text rows count was table
    unfolding table_of
    back_table = rw (← a, wrote, ← o) q

    pub back_says : SaysSame text rows count was out table after
    unfolding SaysSame
    back_says enough =
        rw (← a, wrote)
        (carried bare tt (take n out) refl (omega (arith, length-take n out, (bytes_few text rows count was answer out a o n wrote).0)) table enough reading after p q)

module _ (text rows : List ℕ) (count : ℕ) (was : List ℕ) (answer : Result ℕ Refusal) (a : answer ≡ answer_of text rows count (length was)) (why : Refusal) (e : answer ≡ Err why) where
  module _ (table : List ℕ) where
    pub not_is : Err why ≡ trip_of text rows count was table
    unfolding trip_of
    not_is = rw (← a, e) refl

    pub not_table : table ≡ table_of text rows count was table
    unfolding table_of
    not_table = rw (← a, e) refl

    pub not_says : (out after : List ℕ) → SaysSame text rows count was out table after
    unfolding SaysSame
    not_says out after enough = rw (← a, e) tt
