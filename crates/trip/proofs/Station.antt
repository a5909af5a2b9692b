-- The round trip with a station's fields in front of the records: they join the first. Assumes nothing.
use Rattle.std.specs.Prelude.{Ok}
use mathlib.Core.Path.{◌≡◌, refl, sym, ap, ◌∙◌}
use mathlib.Core.Bool.{true}
use mathlib.Core.List.{List, [], ◌∷◌, ◌++◌, append_assoc}
use Prim.Native.Nat.{ℕ, ◌+◌, ◌^◌, ◌≤◌, ◌<◌}
use native.Mathlib.Omega.{arith}
use lib.ListN.{length, length-append}
use Rattle.adif.specs.Records.{records, total}
use Rattle.adif.specs.Grammar.{Field}
use Rattle.adif.specs.Limits.{Ascending}
use Rattle.adif.specs.Reading.{read_text}
use Rattle.fields.specs.Written.{fields_text, record_text}
use Rattle.rowcheck.specs.Check.{Row, check_of}
use Rattle.writer.specs.Rows.{rows_text, records_of}
use Rattle.station.specs.Station.{station_fields, station_text, all7}
use Rattle.trip.specs.File.{AllGood, Front, front_text, Fit, Records, records_text, file_text, AllWritable, gathered, read_as}
use Rattle.trip.proofs.Means.{named, gathered_is}
use Rattle.trip.proofs.Back.{told, read_back_lem}
use Rattle.trip.proofs.Grouped.{rows_text_lem}
use Rattle.trip.proofs.Trip.{Fits, rows_fit, rows_few, no_comment, between, between_length, between_writable, between_read, closely_is}
use Rattle.trip.proofs.Fronts.{fields_join, good_join, station_good}

-- fields fs that can be written, in front of rows that the writer takes and that stand for the records r and rs
module _ (fs : List Field) (g : AllGood fs) (text : List ℕ) (small : length text < 2 ^ 64) (rows : List Row) (ok : check_of text rows ≡ Ok tt)
    (r : List Field) (rs : List (List Field)) (first : records_of text rows ≡ r ∷ rs) (narrow : length fs + length r ≤ 256) (front : Front) (b : Fit front) where
  all_fit : Fits (r ∷ rs)
  all_fit = rw first at (rows_fit text small rows ok)

  abbrev file : Records
  file = ([], fs ++ r) ∷ between [] rs

  writable : AllWritable file
  writable = (
    no_comment,
    record { some = omega (arith, all_fit.0.some, length-append fs r); few = omega (arith, length-append fs r); fields = good_join fs r g all_fit.0.fields },
    between_writable [] tt rs all_fit.2,
  )

  together : front_text front ++ (fields_text fs ++ rows_text text rows) ≡ file_text front file []
  unfolding file_text
  together =
      ap (λ (l : List ℕ). front_text front ++ l)
      (rw (rows_text_lem text rows, first, closely_is rs)
      (sym (append_assoc (fields_text fs) (record_text r) (records_text (between [] rs) [])) ∙ ap (λ (l : List ℕ). l ++ records_text (between [] rs) []) (fields_join fs r)))

  few : length file ≤ 65535
  few = omega (arith, ap length first, rows_few text small rows ok, between_length [] rs)

  pub joined_trip : (s : List ℕ) → s ≡ front_text front ++ (fields_text fs ++ rows_text text rows) → (room : ℕ) → total (gathered [] (fs ++ r) ∷ rs) ≤ room → length s ≤ 16777216
      → told s (read_text s room) ≡ records (gathered [] (fs ++ r) ∷ rs)
  joined_trip s e room h n =
      let q : read_as file ≡ gathered [] (fs ++ r) ∷ rs = ap (λ (l : List (List Field)). gathered [] (fs ++ r) ∷ l) (between_read [] rs all_fit.2) in
      rw (e, together) (read_back_lem front b file writable [] no_comment few room (omega (arith, ap total q)) (rw (e, together) at n) ∙ ap records q)

  -- where the names go on rising, all fields stand as they were written
  pub joined_rising : Ascending named (fs ++ r) → (s : List ℕ) → s ≡ front_text front ++ (fields_text fs ++ rows_text text rows) → (room : ℕ) → total ((fs ++ r) ∷ rs) ≤ room → length s ≤ 16777216
      → told s (read_text s room) ≡ records ((fs ++ r) ∷ rs)
  joined_rising a s e room h n =
      let q : gathered [] (fs ++ r) ≡ fs ++ r = gathered_is (fs ++ r) a in
      joined_trip s e room (omega (arith, ap length q)) n ∙ rw q refl

-- a station's fields, of UTF-8 texts, in front of the rows' records: read back, they are fields of the first, each at the place of its
-- name, where a field of the record wins over the station's of that name
module _ (call grid name state county cq itu : List ℕ)
    (short : (length call < 2 ^ 64) × (length grid < 2 ^ 64) × (length name < 2 ^ 64) × (length state < 2 ^ 64) × (length county < 2 ^ 64) × (length cq < 2 ^ 64) × (length itu < 2 ^ 64))
    (texts : all7 call grid name state county cq itu ≡ true) (text : List ℕ) (small : length text < 2 ^ 64) (rows : List Row) (ok : check_of text rows ≡ Ok tt)
    (r : List Field) (rs : List (List Field)) (first : records_of text rows ≡ r ∷ rs) (front : Front) (b : Fit front) where
  abbrev station : List Field
  station = station_fields call grid name state county cq itu

  pub station_trip : length station + length r ≤ 256 → (s : List ℕ) → s ≡ front_text front ++ (station_text call grid name state county cq itu ++ rows_text text rows) → (room : ℕ)
      → total (gathered [] (station ++ r) ∷ rs) ≤ room → length s ≤ 16777216 → told s (read_text s room) ≡ records (gathered [] (station ++ r) ∷ rs)
  unfolding station_text
  station_trip narrow s e room h n =
      joined_trip station (station_good call grid name state county cq itu short texts) text small rows ok r rs first narrow front b s e room h n
