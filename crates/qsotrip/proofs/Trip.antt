-- Mapping, writing and reading, tied together. Assumes nothing.
use Rattle.std.specs.Prelude.{Ok}
use mathlib.Core.Path.{◌≡◌, refl, sym, ap, ◌∙◌}
use mathlib.Core.Bool.{Bool, true, false}
use mathlib.Core.List.{List, [], ◌∷◌, ◌++◌, append-nil, map}
use Prim.Native.Nat.{ℕ, ◌/◌, ◌≤◌}
use native.Mathlib.Omega.{arith}
use lib.ListN.{length}
use Rattle.adif.specs.Records.{records, total}
use Rattle.adif.specs.Grammar.{Field}
use Rattle.adif.specs.Limits.{Ascending}
use Rattle.adif.specs.Reading.{read_text}
use Rattle.rowcheck.specs.Check.{Row, record_in}
use Rattle.reader.specs.Table.{answer_to, table_after}
use Rattle.writer.specs.Rows.{rows_from, rows_of, row_field, ends_before, joined, grouped, records_of}
use Rattle.trip.specs.File.{Front, front_text, Fit}
use Rattle.trip.proofs.Means.{named}
use Rattle.trip.proofs.Back.{told}
use Rattle.roundtrip.proofs.TableLaws.{answer_is, says_again}
use Rattle.columns.specs.Columns
use Rattle.model.specs.Contact.{Contact, contact}
use Rattle.model.specs.Answer.{accepted}
use Rattle.model.specs.declared.Qso.{Qso}
use Rattle.mapping.specs.Contact.{column_value, contact_of}
use Rattle.mapping.specs.Mapping.{extra_rows, mapped, mapped_to}
use Rattle.qsowriter.specs.Record.{record_of}
use Rattle.qsowriter.specs.Writing.{contact_with, qso_text, qso_verdict}
use Rattle.qsotrip.specs.Rewritten.{Each, NoColumn, Rewritten, read_back, Survives, Lasting}
use Rattle.qsotrip.proofs.Accepted.{extra_rises, qso_writable}
use Rattle.qsotrip.proofs.Mapped.{its_freq, its_freq_rx, contact_back, rewritten}
use Rattle.qsotrip.proofs.Lasting.{lasting_back}
use Rattle.qsotrip.proofs.Written.{read_alone}
use Rattle.qsotrip.proofs.Rows.{said_by, rows_capital, qso_of, qso_means, call_rises, call_means, mapped_accepted}

-- A record's rows are mapped to a QSO; the QSO is written with the record's extra rows; what is written is read, behind any header. Then
-- one record is read, and its fields are those of the record at first but for what `Rewritten` says.
module _ (text table : List ℕ) (first count : ℕ) (q : Qso) (e : mapped_to text table first count ≡ accepted q)
    (extra : List ℕ) (k : ℕ) (is : rows_of extra k ≡ extra_rows text (rows_from table first count)) (ok : qso_verdict text q extra k ≡ Ok tt) where
  abbrev pub before : List Field
  before = said_by text (rows_from table first count)

  abbrev pub after : List Field
  after = record_of (contact_of before)

  says : contact_with text q (rows_of extra k) ≡ contact_of before
  unfolding contact_with
  says = rw is (call_means text table first count q e)

  pub mapped_written : Rewritten before after
  mapped_written = rewritten before (call_rises text table first count q e) (rows_capital text (rows_from table first count))

  pub mapped_read : (front : Front) → Fit front → (s : List ℕ) → s ≡ front_text front ++ qso_text text q (rows_of extra k) → (room : ℕ) → length after ≤ room
      → length s ≤ 16777216 → told s (read_text s room) ≡ records (after ∷ [])
  mapped_read front b s w room h n =
      let z : record_of (contact_with text q (rows_of extra k)) ≡ after = ap record_of says in
      read_alone text q extra k ok front b s w room (rw z h) n ∙ ap (λ (r : List Field). records (r ∷ [])) z

-- ---- rows that say one record
abbrev concat : {A : Type 0} → List (List A) → List A
concat [] = []
concat (x ∷ xs) = x ++ concat xs

map_join : {A B : Type 0} (f : A → B) (xs ys : List A) → map f xs ++ map f ys ≡ map f (xs ++ ys)
map_join f [] ys = refl
map_join f (x ∷ xs) ys = rw (map_join f xs ys) refl

concat_map : {A B : Type 0} (f : A → B) (xss : List (List A)) → concat (map (map f) xss) ≡ map f (concat xss)
concat_map f [] = refl
concat_map f (xs ∷ xss) = rw (concat_map f xss) (map_join f xs (concat xss))

joined_all : (b : Bool) (r : Row) (gs : List (List Row)) → concat (joined b r gs) ≡ r ∷ concat gs
joined_all true r gs = refl
joined_all false r [] = refl
joined_all false r (g ∷ gs) = refl

grouped_all : (rows : List Row) → concat (grouped rows) ≡ rows
grouped_all [] = refl
grouped_all (r ∷ rs) = joined_all (ends_before (record_in r) rs) r (grouped rs) ∙ ap (λ (l : List Row). r ∷ l) (grouped_all rs)

one_record : (text : List ℕ) (rows : List Row) (r : List Field) → records_of text rows ≡ r ∷ [] → said_by text rows ≡ r
one_record text rows r e =
    ap (map (row_field text)) (sym (grouped_all rows)) ∙ sym (concat_map (row_field text) (grouped rows)) ∙ ap concat e ∙ append-nil r

-- A QSO that its writer takes, none of whose extra fields is a column, is written, read and mapped.
module _ (text : List ℕ) (q : Qso) (table : List ℕ) (count : ℕ) (ok : qso_verdict text q table count ≡ Ok tt)
    (none : Each NoColumn (said_by text (rows_of table count))) where
  abbrev pub said : Contact
  said = contact_with text q (rows_of table count)

  abbrev pub fields : List Field
  fields = record_of said

  extra_is : said.extra ≡ said_by text (rows_of table count)
  unfolding contact_with contact
  extra_is = refl

  rising : Ascending named said.extra
  rising = rw extra_is (extra_rises text q table count ok)

  apart : Each NoColumn said.extra
  apart = rw extra_is none

  -- It says the contact with its frequencies as six decimals say them, the receiver's band only beside its frequency, and DXCC as its text
  -- says it.
  pub mapped_again : contact_of fields ≡ read_back said
  mapped_again = contact_back said rising apart

  -- If those last, it says the contact that was written.
  pub same_again : Lasting said → contact_of fields ≡ said
  same_again l = mapped_again ∙ lasting_back said l

  -- So with places: rows of any text that say what was written are mapped to a QSO over that text, and it says the contact.
  module _ (text' : List ℕ) (rows' : List Row) (is : said_by text' rows' ≡ fields) where
    pub rows_mean : contact text' (qso_of text' rows') (said_by text' (extra_rows text' rows')) ≡ read_back said
    rows_mean = qso_means text' rows' ∙ ap contact_of is ∙ mapped_again

    pub rows_mapped : Survives said.freq → Survives said.freq_rx → mapped text' rows' ≡ accepted (qso_of text' rows')
    rows_mapped f g =
        mapped_accepted text' rows' said.freq said.freq_rx f g (ap (column_value Columns.freq) is ∙ its_freq said rising apart)
        (ap (column_value Columns.freq_rx) is ∙ its_freq_rx said rising apart)

    pub rows_same : Lasting said → contact text' (qso_of text' rows') (said_by text' (extra_rows text' rows')) ≡ said
    rows_same l = rows_mean ∙ lasting_back said l

  -- And those are the rows that the reader lays into a table that has room for them: it answers with one record.
  module _ (front : Front) (b : Fit front) (s : List ℕ) (w : s ≡ front_text front ++ qso_text text q (rows_of table count)) (n : length s ≤ 16777216)
      (lent : List ℕ) (room : length fields ≤ length lent / 5) where
    reading : told s (read_text s (length lent / 5)) ≡ records (fields ∷ [])
    reading = read_alone text q table count ok front b s w (length lent / 5) room n

    used : total (fields ∷ []) ≡ length fields
    used = omega arith

    pub one_read : answer_to s lent ≡ Ok (record { records = 1; rows = length fields })
    one_read = answer_is s lent (fields ∷ []) ((qso_writable text q table count ok).some, tt) reading ∙ ap (λ z. Ok (record { records = 1; rows = z })) used

    pub rows_read : said_by s (rows_of (table_after s lent) (length fields)) ≡ fields
    rows_read =
        ap (λ (m : ℕ). said_by s (rows_of (table_after s lent) m)) (sym used)
        ∙ one_record s (rows_of (table_after s lent) (total (fields ∷ []))) fields (says_again s lent (fields ∷ []) ((qso_writable text q table count ok).some, tt) reading)

    -- the whole way round: written, read and mapped, the contact is the same
    abbrev pub again : List Row
    again = rows_of (table_after s lent) (length fields)

    pub round_tuned : Survives said.freq → Survives said.freq_rx → mapped s again ≡ accepted (qso_of s again)
    round_tuned f g = rows_mapped s again rows_read f g

    pub round_mapped : Lasting said → mapped s again ≡ accepted (qso_of s again)
    round_mapped l = round_tuned l.freq l.freq_rx

    pub round_same : Lasting said → contact s (qso_of s again) (said_by s (extra_rows s again)) ≡ said
    round_same l = rows_same s again rows_read l
