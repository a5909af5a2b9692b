-- The rows of the records that were read, one after the other, and what is looked at for each.
use Rattle.std.specs.Prelude.{ℕ, suc, ◌+◌, ◌≡◌, refl, Bool, List, [], ◌∷◌, map, eqb, length}
use Rattle.text.specs.Pick.{pick}
use Rattle.adif.specs.Records.{records, refused}
use Rattle.adif.specs.Reading.{Row as Field, RowsRead}
use Rattle.hand.specs.Rows.{numbered}
use Rattle.rowcheck.specs.Check
use Rattle.rowcheck.specs.Check.{record_in}
use Rattle.tables.specs.Place.{in_text, part, bytes}
use Rattle.tables.specs.declared.Place.{Place}
use Rattle.usable.specs.Reasons.{reason_of}
use Rattle.entries.specs.Row.{Row, file_code, entry_row}
use Rattle.entries.specs.declared.Judged.{Judged}

-- ---- a key and its reason
-- a place's part of the text, or the name of its entry
abbrev pub shown_as : List ℕ → Place → List ℕ → List ℕ
shown_as text p name = pick (in_text p) (part text p) name

-- of the texts of call, mode, band, date and time
unfoldable pub judged_as : List ℕ → List ℕ → List ℕ → List ℕ → List ℕ → Bool → Judged
judged_as call mode band date time inexact = record { code = file_code call mode band; reason = reason_of call date time mode inexact }

-- of their places
unfoldable pub judged_of : List ℕ → Place → Place → Place → Place → Place → Bool → Judged
judged_of text call mode band date time inexact =
    judged_as (bytes text call) (bytes text mode) (bytes text band) (bytes text date) (bytes text time) inexact

-- ---- a record's rows: how many at the front are of record n
abbrev pub size_in : ℕ → List Check.Row → ℕ
size_in n [] = 0
size_in n (r ∷ rs) = pick (eqb (record_in r) n) (suc (size_in n rs)) 0

-- two rows of record 1, and one of record 2
two_of_three : size_in 1 ((1 ∷ []) ∷ (1 ∷ []) ∷ (2 ∷ []) ∷ []) ≡ 2
two_of_three = refl

-- ---- the rows of the records that were read: the first is record n, and its first row in the table is row `first`
abbrev pub rows_of_records : List ℕ → ℕ → ℕ → List (List Field) → List Row
rows_of_records text n first [] = []
rows_of_records text n first (r ∷ rs) = entry_row text (map (numbered n) r) first (length r) ∷ rows_of_records text (suc n) (first + length r) rs

-- a reading that is refused has none
unfoldable pub entry_rows : List ℕ → RowsRead → List Row
entry_rows text (records rs) = rows_of_records text 1 0 rs
entry_rows text (refused why) = []
