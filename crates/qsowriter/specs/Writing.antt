-- What the QSO writer answers, and what it leaves in the output.
use Rattle.refusals.specs.declared.Refusal.{Refusal}
use Rattle.std.specs.Prelude.{ℕ, ◌+◌, ◌/◌, Bool, true, false, List, [], ◌∷◌, map, leb, length, ⊤, Result, Ok, Err}
use Rattle.text.specs.Pick.{pick, both, either}
use Rattle.letters.specs.Capitals.{capitals}
use Rattle.letters.specs.Order.{order_raised}
use Rattle.letters.specs.Same.{same}
use Rattle.refusals.specs.Written.{fitted, output_by}
use Rattle.refusals.specs.declared.Refusal.TheVariants.{TooLong, ManyNames, BadRow, BadName, FrequencyTooHigh}
use Rattle.adif.specs.Grammar.{Field}
use Rattle.fields.specs.Written.{record_text}
use Rattle.rowcheck.specs.Check.{Row, name_in, placed, sound, is_less, writable, and_then}
use Rattle.writer.specs.Rows.{rows_of, row_field}
use Rattle.writer.specs.Answer.{sized_by}
use Rattle.model.specs.Flags.{is_yes}
use Rattle.model.specs.Contact.{Contact, contact}
use Rattle.model.specs.Answer.{is_qso}
use Rattle.model.specs.declared.Frequency.{Frequency}
use Rattle.model.specs.declared.Qso.{Qso}
use Rattle.qsowriter.specs.Record.{column_fields, record_of}
use Rattle.qsowriter.specs.declared.WrittenQso.{WrittenQso}

-- the contact that a QSO and its extra rows say, and its text
unfoldable pub contact_with : List ℕ → Qso → List Row → Contact
contact_with text q extra = contact text q (map (row_field text) extra)

unfoldable pub qso_text : List ℕ → Qso → List Row → List ℕ
qso_text text q extra = record_text (record_of (contact_with text q extra))

-- 14: a frequency of 8,589,934,592,000,000 Hz or more
abbrev pub is_too_high : Frequency → Bool
is_too_high f = both (is_yes f.given) (leb 8589934592000000 f.hz)

-- a field of the columns has that name
abbrev pub is_taken : List Field → List ℕ → Bool
is_taken [] name = false
is_taken (f ∷ fs) name = either (same f.name (capitals name)) (is_taken fs name)

-- how many fields there are with the row, where there were n without it
abbrev pub count_with : List ℕ → List Field → ℕ → Row → ℕ
count_with text fs n r = pick (is_taken fs (name_in text r)) n (n + 1)

-- 11, 12, 8 of a row, whose record is not read; `risen` tells whether its name is above that of the row before
abbrev pub row_verdict : List ℕ → List Field → ℕ → Bool → Row → Result ⊤ Refusal
row_verdict text fs n risen r =
    pick (both (both (placed text r) (sound text r)) risen)
    (pick (writable (name_in text r)) (pick (leb (count_with text fs n r) 256) (Ok tt) (Err (ManyNames 0))) (Err BadName))
    (Err BadRow)

abbrev pub is_above : List ℕ → Row → Row → Bool
is_above text p r = is_less (order_raised (name_in text p) (name_in text r))

-- the rows after row p, where there were n fields with it
abbrev pub rows_after : List ℕ → List Field → ℕ → Row → List Row → Result ⊤ Refusal
rows_after text fs n p [] = Ok tt
rows_after text fs n p (r ∷ rs) = and_then (row_verdict text fs n (is_above text p r) r) (rows_after text fs (count_with text fs n r) r rs)

unfoldable pub extra_verdict : List ℕ → List Field → List Row → Result ⊤ Refusal
extra_verdict text fs [] = Ok tt
extra_verdict text fs (r ∷ rs) = and_then (row_verdict text fs (length fs) true r) (rows_after text fs (count_with text fs (length fs) r) r rs)

-- 1 for the source text, 14, 11 for the columns or the row count, then the extra rows
unfoldable pub qso_verdict : List ℕ → Qso → List ℕ → ℕ → Result ⊤ Refusal
qso_verdict text q table count =
    pick (leb (length text) 16777216)
    (pick (either (is_too_high q.freq) (is_too_high q.freq_rx)) (Err FrequencyTooHigh)
    (pick (both (is_qso text q) (leb count (length table / 5)))
    (extra_verdict text (column_fields (contact_with text q [])) (rows_of table count))
    (Err BadRow)))
    (Err TooLong)

-- then 1 for the output, and 13
unfoldable pub written_to : List ℕ → Qso → List ℕ → ℕ → ℕ → Result ℕ Refusal
written_to text q table count room = fitted (sized_by (qso_verdict text q table count) (length (qso_text text q (rows_of table count)))) room

-- the QSO comes back as it was
abbrev pub answer_to : List ℕ → Qso → List ℕ → ℕ → ℕ → WrittenQso
answer_to text q table count room = record { written = written_to text q table count room; qso = q }

-- the output: the text at its front, or as it was
unfoldable pub output_after : List ℕ → Qso → List ℕ → ℕ → List ℕ → List ℕ
output_after text q table count was = output_by (written_to text q table count (length was)) was (qso_text text q (rows_of table count))
