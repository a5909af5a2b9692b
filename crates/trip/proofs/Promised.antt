-- The round trip of the code: from the writer's promise, and a reading that is what the reader's promise says. Assumes nothing.
use Rattle.std.specs.Prelude.{Result, Ok, Err}
use Rattle.refusals.specs.declared.Refusal.{Refusal}
use mathlib.Core.Path.{◌≡◌, refl, sym, ap, ◌∙◌}
use mathlib.Core.Bool.{true}
use mathlib.Core.List.{List, ◌++◌}
use Prim.Native.Nat.{ℕ, ◌+◌, ◌/◌, ◌^◌, ◌≤◌, ◌<◌}
use native.Mathlib.Nat.{zero-add}
use native.Mathlib.Omega.{arith}
use lib.ListN.{length, take, drop}
use lib.Seq.{sets, sets-eq, length-sets, take_at, drop_at}
use lib.Dec.{leb}
use borrow.Author.Tests.{leb-true}
use Rattle.text.specs.Pick.{pick}
use Rattle.adif.specs.Records.{records, total}
use Rattle.adif.specs.Reading.{RowsRead, read_text}
use Rattle.refusals.specs.Written.{fitted}
use Rattle.refusals.specs.declared.Refusal.TheVariants.{TooLong, BadRow}
use Rattle.refusals.proofs.WrittenLaws.{passed, fits}
use Rattle.rowcheck.specs.Check.{check_of}
use Rattle.writer.specs.Rows.{rows_of, rows_text, records_of}
use Rattle.writer.specs.Answer.{checked_of, answer_of, output_of}
use Rattle.writer.proofs.AnswerLaws.{sized}
use Rattle.trip.specs.File.{Front, front_text, Fit}
use Rattle.trip.proofs.Back.{told}
use Rattle.trip.proofs.Trip.{trip}

-- ---- what was set at the front of an output, and what stands behind it
front_set : (l w : List ℕ) → length w ≤ length l → sets l 0 w ≡ w ++ drop (length w) l
front_set l w h =
    let k : 0 + length w ≤ length l = omega arith in
    sets-eq w l 0 k ∙ rw (zero-add (length w)) refl

take_set : (l w : List ℕ) → length w ≤ length l → take (length w) (sets l 0 w) ≡ w
take_set l w h = rw (front_set l w h) (take_at w (drop (length w) l) (length w) refl)

drop_set : (l w : List ℕ) → length w ≤ length l → drop (length w) (sets l 0 w) ≡ drop (length w) l
drop_set l w h = rw (front_set l w h) (drop_at w (drop (length w) l) (length w) refl)

module _ (text table : List ℕ) (count : ℕ) (was : List ℕ) (answer : Result ℕ Refusal) (out : List ℕ)
    (a : answer ≡ answer_of text table count (length was)) (o : out ≡ output_of text table count was) (n : ℕ) (wrote : answer ≡ Ok n) where
  is : answer_of text table count (length was) ≡ Ok n
  is = sym a ∙ wrote

  abbrev rows_fit : Result ℕ Refusal
  rows_fit = fitted (checked_of text (rows_of table count)) (length was)

  first : (leb (length text) 16777216 ≡ true) × (pick (leb count (length table / 5)) rows_fit (Err BadRow) ≡ Ok n)
  unfolding answer_of
  first = passed n (leb (length text) 16777216) (pick (leb count (length table / 5)) rows_fit (Err BadRow)) TooLong is

  second : (checked_of text (rows_of table count) ≡ Ok n) × (n ≤ 16777216) × (n ≤ length was)
  second = fits n (checked_of text (rows_of table count)) (length was) (passed n (leb count (length table / 5)) rows_fit BadRow first.1).1

  checked : (check_of text (rows_of table count) ≡ Ok tt) × (n ≡ length (rows_text text (rows_of table count)))
  unfolding checked_of
  checked = sized (check_of text (rows_of table count)) (length (rows_text text (rows_of table count))) n second.0

  pub taken : check_of text (rows_of table count) ≡ Ok tt
  taken = checked.0

  size_is : n ≡ length (rows_text text (rows_of table count))
  size_is = checked.1

  set_is : out ≡ sets was 0 (rows_text text (rows_of table count))
  unfolding output_of
  set_is = o ∙ rw is refl

  in_room : length (rows_text text (rows_of table count)) ≤ length was
  in_room = omega (arith, size_is, second.2)

  -- the n bytes at the front of the output are the rows' text, and what stands behind them is untouched
  pub written : take n out ≡ rows_text text (rows_of table count)
  written = rw (set_is, size_is) (take_set was (rows_text text (rows_of table count)) in_room)

  pub untouched : drop n out ≡ drop n was
  untouched = rw (set_is, size_is) (drop_set was (rows_text text (rows_of table count)) in_room)

  pub text_small : length text < 2 ^ 64
  text_small = omega (arith, leb-true (length text) 16777216 first.0)

  pub bytes_few : (n ≤ 16777216) × (n ≤ length out)
  bytes_few = (second.1, omega (arith, ap length set_is, length-sets was 0 (rows_text text (rows_of table count)), second.2))

  -- what the writer wrote, behind a front, is read as the rows' records
  pub trip_promised : (front : Front) → Fit front → (s : List ℕ) → s ≡ front_text front ++ take n out → length s ≤ 16777216 → (room : ℕ) → total (records_of text (rows_of table count)) ≤ room
      → (reading : RowsRead) → reading ≡ read_text s room → told s reading ≡ records (records_of text (rows_of table count))
  trip_promised front b s e l room h reading p =
      ap (told s) p
      ∙ trip text text_small (rows_of table count) taken front b s (e ∙ ap (λ (t : List ℕ). front_text front ++ t) written) room h l
