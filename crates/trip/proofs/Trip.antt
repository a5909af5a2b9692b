-- The round trip: rows that the writer takes, written one record after the other, with or without a header in front, and with comments
-- before, between and after, read back as the records of those rows. Assumes nothing.
use Rattle.std.specs.Prelude.{Ok}
use mathlib.Core.Path.{◌≡◌, refl, sym, ap, ◌∙◌}
use mathlib.Core.List.{List, [], ◌∷◌, ◌++◌, map}
use Prim.Native.Nat.{ℕ, suc, ◌^◌, ◌≤◌, ◌<◌}
use lib.ListN.{length, length-map}
use Rattle.text.specs.Walk.{lead}
use Rattle.text.specs.Utf8.{valid_up_to}
use Rattle.adif.specs.Records.{records, total, whole}
use Rattle.adif.specs.Grammar.{Field, Says}
use Rattle.adif.specs.Limits.{Ascending}
use Rattle.adif.specs.Reading.{read_text}
use Rattle.rowcheck.specs.Check.{Row, check_of}
use Rattle.writer.specs.Rows.{row_field, rows_text, grouped, records_of}
use Rattle.trip.specs.File.{Comment, Front, bare, front_text, Fit, Records, file_text, Writable, AllWritable, gathered, read_as}
use Rattle.trip.proofs.Says.{file_says, front_items, all_items}
use Rattle.trip.proofs.Means.{named, gathered_is}
use Rattle.trip.proofs.Back.{told, read_back_lem, one_list}
use Rattle.trip.proofs.Grouped.{closely, rows_text_lem}
use Rattle.trip.proofs.Accepted.{AllFit, accepted}

-- a comment before each record, as far as they go
abbrev pub Comments : List (List ℕ) → Type 0
Comments [] = Unit {0}
Comments (g ∷ gs) = Comment g × Comments gs

abbrev pub between : List (List ℕ) → List (List Field) → Records
between [] [] = []
between [] (r ∷ rs) = ([], r) ∷ between [] rs
between (g ∷ gs) [] = []
between (g ∷ gs) (r ∷ rs) = (g, r) ∷ between gs rs

-- records that can be written, and whose names rise
abbrev pub Fits : List (List Field) → Type 0
Fits [] = Unit {0}
Fits (r ∷ rs) = Writable r × Ascending named r × Fits rs

pub no_comment : Comment []
unfolding valid_up_to lead
no_comment = record { no_lt = tt; good = refl }

pub between_length : (gs : List (List ℕ)) (rs : List (List Field)) → length (between gs rs) ≡ length rs
between_length [] [] = refl
between_length [] (r ∷ rs) = ap suc (between_length [] rs)
between_length (g ∷ gs) [] = refl
between_length (g ∷ gs) (r ∷ rs) = ap suc (between_length gs rs)

pub between_writable : (gs : List (List ℕ)) → Comments gs → (rs : List (List Field)) → Fits rs → AllWritable (between gs rs)
between_writable [] c [] w = tt
between_writable [] c (r ∷ rs) w = (no_comment, w.0, between_writable [] tt rs w.2)
between_writable (g ∷ gs) c [] w = tt
between_writable (g ∷ gs) c (r ∷ rs) w = (c.0, w.0, between_writable gs c.1 rs w.2)

joined_by : (r : List Field) (rs rs' : List (List Field)) → gathered [] r ≡ r → rs' ≡ rs → gathered [] r ∷ rs' ≡ r ∷ rs
joined_by r rs rs' p q = rw (p, q) refl

pub between_read : (gs : List (List ℕ)) (rs : List (List Field)) → Fits rs → read_as (between gs rs) ≡ rs
between_read [] [] w = refl
between_read [] (r ∷ rs) w = joined_by r rs (read_as (between [] rs)) (gathered_is r w.1) (between_read [] rs w.2)
between_read (g ∷ gs) [] w = refl
between_read (g ∷ gs) (r ∷ rs) w = joined_by r rs (read_as (between gs rs)) (gathered_is r w.1) (between_read gs rs w.2)

pub closely_is : (rs : List (List Field)) → closely rs ≡ between [] rs
closely_is [] = refl
closely_is (r ∷ rs) = ap (λ (l : Records). ([], r) ∷ l) (closely_is rs)

fits : (text : List ℕ) (small : length text < 2 ^ 64) (gs : List (List Row)) → AllFit text small gs → Fits (map (map (row_field text)) gs)
fits text small [] w = tt
fits text small (g ∷ gs) w = (w.0, w.1, fits text small gs w.2)

-- records that the writer takes, at most 65,535
module _ (rs : List (List Field)) (w : Fits rs) (few : length rs ≤ 65535) (front : Front) (b : Fit front) (gs : List (List ℕ)) (c : Comments gs) (last : List ℕ) (l : Comment last) where
  abbrev pub file : List ℕ
  file = file_text front (between gs rs) last

  -- what is written is ADIF text
  pub records_say : Says file (front_items front (all_items (between gs rs))) whole
  records_say = file_says front b (between gs rs) (between_writable gs c rs w) last l

  pub records_back : (room : ℕ) → total rs ≤ room → length file ≤ 16777216 → told file (read_text file room) ≡ records rs
  records_back room h n =
      read_back_lem front b (between gs rs) (between_writable gs c rs w) last l (rw (between_length gs rs) few) room (rw (between_read gs rs w) h) n
      ∙ ap records (between_read gs rs w)

module _ (text : List ℕ) (small : length text < 2 ^ 64) (rows : List Row) (ok : check_of text rows ≡ Ok tt) where
  pub rows_fit : Fits (records_of text rows)
  rows_fit = fits text small (grouped rows) (accepted text small rows ok).0

  pub rows_few : length (records_of text rows) ≤ 65535
  rows_few = rw (length-map (grouped rows)) (accepted text small rows ok).1

  -- the rows' records, each as it is written, with comments between them
  module _ (front : Front) (b : Fit front) where
    pub trip_between : (gs : List (List ℕ)) → Comments gs → (last : List ℕ) → Comment last → (room : ℕ) → total (records_of text rows) ≤ room
        → length (file_text front (between gs (records_of text rows)) last) ≤ 16777216
        → told (file_text front (between gs (records_of text rows)) last) (read_text (file_text front (between gs (records_of text rows)) last) room) ≡ records (records_of text rows)
    trip_between gs c last l room h n = records_back (records_of text rows) rows_fit rows_few front b gs c last l room h n

    -- the rows' text as the writer puts it, behind the front
    pub together : front_text front ++ rows_text text rows ≡ file_text front (between [] (records_of text rows)) []
    unfolding file_text
    together = rw (rows_text_lem text rows, closely_is (records_of text rows)) refl

    pub trip : (s : List ℕ) → s ≡ front_text front ++ rows_text text rows → (room : ℕ) → total (records_of text rows) ≤ room → length s ≤ 16777216
        → told s (read_text s room) ≡ records (records_of text rows)
    trip s e room h n = rw (e, together) (trip_between [] tt [] no_comment room h (rw (e, together) at n))

    pub written_says : Says (front_text front ++ rows_text text rows) (front_items front (all_items (between [] (records_of text rows)))) whole
    written_says = rw together (records_say (records_of text rows) rows_fit rows_few front b [] tt [] no_comment)

-- two lists of rows that the writer takes and that stand for different records give different texts
pub no_two : (text text' : List ℕ) → length text < 2 ^ 64 → length text' < 2 ^ 64 → (rows rows' : List Row) → check_of text rows ≡ Ok tt → check_of text' rows' ≡ Ok tt
    → rows_text text rows ≡ rows_text text' rows' → records_of text rows ≡ records_of text' rows'
no_two text text' s s' rows rows' ok ok' e =
    let A : List (List Field) = records_of text rows in
    let B : List (List Field) = records_of text' rows' in
    let f : Fits A = rows_fit text s rows ok in
    let g : Fits B = rows_fit text' s' rows' ok' in
    sym (between_read [] A f)
    ∙ one_list bare bare tt tt (between [] A) (between [] B) [] [] (between_writable [] tt A f) (between_writable [] tt B g) no_comment no_comment
    (rw (between_length [] A) (rows_few text s rows ok)) (rw (between_length [] B) (rows_few text' s' rows' ok'))
    (sym (together text s rows ok bare tt) ∙ e ∙ together text' s' rows' ok' bare tt)
    ∙ between_read [] B g
