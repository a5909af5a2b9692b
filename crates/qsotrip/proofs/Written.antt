-- A QSO that its writer takes, written behind a front or among other records, reads back as its record. Assumes nothing.
use Rattle.std.specs.Prelude.{Ok}
use mathlib.Core.Path.{◌≡◌, refl, ◌∙◌}
use mathlib.Core.List.{List, [], ◌∷◌, ◌++◌, append-nil}
use Prim.Native.Nat.{ℕ, ◌+◌, ◌≤◌, ◌<◌}
use native.Mathlib.Omega.{arith}
use lib.ListN.{length, length-append}
use Rattle.adif.specs.Records.{records, total}
use Rattle.adif.specs.Grammar.{Field}
use Rattle.adif.specs.Reading.{read_text}
use Rattle.fields.specs.Written.{record_text}
use Rattle.writer.specs.Rows.{rows_of}
use Rattle.trip.specs.File.{Front, front_text, Fit, Comment, file_text}
use Rattle.trip.proofs.Back.{told}
use Rattle.trip.proofs.Trip.{Comments, between, Fits, no_comment, records_back}
use Rattle.model.specs.Contact.{Contact}
use Rattle.model.specs.declared.Qso.{Qso}
use Rattle.qsowriter.specs.Record.{record_of}
use Rattle.qsowriter.specs.Writing.{contact_with, qso_text, qso_verdict}
use Rattle.qsotrip.proofs.Accepted.{qso_writable, qso_rises}

fits_join : (rs ts : List (List Field)) → Fits rs → Fits ts → Fits (rs ++ ts)
fits_join [] ts a b = b
fits_join (r ∷ rs) ts a b = (a.0, a.1, fits_join rs ts a.2 b)

module _ (text : List ℕ) (q : Qso) (table : List ℕ) (count : ℕ) (ok : qso_verdict text q table count ≡ Ok tt) where
  -- what the QSO with its extra rows says, and its record
  abbrev pub said : Contact
  said = contact_with text q (rows_of table count)

  abbrev pub fields : List Field
  fields = record_of said

  pub qso_fits : Fits (fields ∷ [])
  qso_fits = (qso_writable text q table count ok, qso_rises text q table count ok, tt)

  module _ (front : Front) (b : Fit front) where
    -- among other records, with comments between them
    pub read_among : (before after : List (List Field)) → Fits before → Fits after → length before + length after < 65535
        → (gs : List (List ℕ)) → Comments gs → (last : List ℕ) → Comment last → (room : ℕ) → total (before ++ (fields ∷ after)) ≤ room
        → length (file_text front (between gs (before ++ (fields ∷ after))) last) ≤ 16777216
        → told (file_text front (between gs (before ++ (fields ∷ after))) last) (read_text (file_text front (between gs (before ++ (fields ∷ after))) last) room)
        ≡ records (before ++ (fields ∷ after))
    read_among before after v w few gs c last l room h n =
        records_back (before ++ (fields ∷ after))
        (fits_join before (fields ∷ after) v (qso_writable text q table count ok, qso_rises text q table count ok, w))
        (omega (arith, length-append before (fields ∷ after))) front b gs c last l room h n

    -- alone behind the front: what the writer writes
    alone : front_text front ++ qso_text text q (rows_of table count) ≡ file_text front (between [] (fields ∷ [])) []
    unfolding qso_text file_text
    alone = rw (append-nil (record_text fields)) refl

    pub read_alone : (s : List ℕ) → s ≡ front_text front ++ qso_text text q (rows_of table count) → (room : ℕ) → length fields ≤ room → length s ≤ 16777216
        → told s (read_text s room) ≡ records (fields ∷ [])
    read_alone s e room h n =
        let z : s ≡ file_text front (between [] (fields ∷ [])) [] = e ∙ alone in
        rw z
        (records_back (fields ∷ []) qso_fits (omega arith) front b [] tt [] no_comment room (omega arith) (rw z at n))
