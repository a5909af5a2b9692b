-- The row of a record, and what it says of the record as the plan's definition sees it. Assumes nothing.
use Rattle.std.specs.Prelude.{Option, Result, Ok, Err, ⊤}
use Rattle.std.specs.Result.{is_err}
use Rattle.refusals.specs.declared.Refusal.{Refusal}
use mathlib.Core.Path.{◌≡◌, refl}
use mathlib.Core.Bool.{Bool, true, false, ◌||◌}
use Rattle.std.specs.List.{list_any}
use mathlib.Core.List.{List, [], ◌∷◌}
use Prim.Native.Nat.{ℕ, ◌+◌, ◌*◌, ◌≤◌}
use lib.ListN.{length, get_or}
use Rattle.text.specs.Pick.{either}
use Rattle.rowcheck.specs.Check
use Rattle.tables.specs.Place.{bytes}
use Rattle.times.specs.Moments.{moment_of}
use Rattle.columns.specs.Columns
use Rattle.model.specs.Flags.{one_if}
use Rattle.model.specs.Contact.{place_of, column_text}
use Rattle.model.specs.Normal.{normal_qso}
use Rattle.model.specs.declared.Answer as model-answer
use Rattle.model.specs.declared.Qso.{Qso}
use Rattle.mapping.specs.Mapping.{mapped}
use Rattle.index.specs.Rows.{low, high, has_moment, seconds_in}
use Rattle.writer.specs.Rows.{rows_from}
use Rattle.search.proofs.FindLaws.{moment_back}
use Rattle.confirmations.specs.Confirmations.{answers_of}
use Rattle.confirmations.specs.declared.Answer.{Answer}
use Rattle.usable.specs.Reasons.{reason_in}
use Rattle.plan.specs.Entry.{is_refused, entry_with, entry_of}
use Rattle.plan.specs.Fates.{bears_any}
use Rattle.entries.specs.Row.{Row, row_of, row_with, entry_row}
use Rattle.entries.specs.Filled.{Says, Answers}
use Rattle.entries.specs.Walked.{judged_as, judged_of}
use Rattle.entries.specs.declared.Judged.{Judged}

-- ---- the answers
pub bears_is : (given : List Answer) → list_any (λ a. a.present) given ≡ bears_any given
bears_is [] = refl
bears_is (a ∷ rest) = rw (bears_is rest) (by a.present)
  where
    by : (b : Bool) → b || bears_any rest ≡ either b (bears_any rest)
    by true = refl
    by false = refl

-- ---- the row
module _ (text : List ℕ) (rows : List Check.Row) (q : Qso) (inexact : Bool) (first count : ℕ) where
  pub row_is : (j : Judged) (m : Option ℕ) (s h l u b : ℕ) (given : List Answer) (t : Bool)
      → j ≡ judged_of text (place_of q Columns.call) (place_of q Columns.mode) (place_of q Columns.band) (place_of q Columns.qso_date) (place_of q Columns.time_on) inexact
      → m ≡ moment_of (bytes text (place_of q Columns.qso_date)) (bytes text (place_of q Columns.time_on))
      → s ≡ seconds_in m → given ≡ answers_of text rows (place_of q Columns.qso_date) → h ≡ has_moment m → l ≡ low s → u ≡ high s → t ≡ bears_any given → b ≡ one_if t
      → 0 ∷ j.reason ∷ 0 ∷ 0 ∷ j.code
      ∷ (place_of q Columns.call).kind ∷ (place_of q Columns.call).start ∷ (place_of q Columns.call).len
      ∷ (place_of q Columns.mode).kind ∷ (place_of q Columns.mode).start ∷ (place_of q Columns.mode).len
      ∷ (place_of q Columns.band).kind ∷ (place_of q Columns.band).start ∷ (place_of q Columns.band).len
      ∷ (place_of q Columns.qso_date).kind ∷ (place_of q Columns.qso_date).start ∷ (place_of q Columns.qso_date).len
      ∷ h ∷ l ∷ u ∷ first ∷ count ∷ 0 ∷ b ∷ 0 ∷ 0 ∷ 0 ∷ 0 ∷ []
      ≡ row_with text rows q inexact first count
  unfolding row_with row_of judged_of judged_as reason_in
  row_is j m s h l u b given t ej em es ea eh el eu et eb = rw (ej, eb, et, ea, eh, el, eu, es, em) refl

refused_is : (v : Result ⊤ Refusal) → is_err v ≡ is_refused v
refused_is (Ok x) = refl
refused_is (Err w) = refl

pub record_row : (text : List ℕ) (rows : List Check.Row) (a : model-answer.Answer) (q : Qso) (t : Bool) (first count : ℕ) (r : Row)
    → a ≡ mapped text rows → q ≡ normal_qso text a.qso → t ≡ is_err a.verdict → r ≡ row_with text rows q t first count → r ≡ entry_row text rows first count
unfolding entry_row
record_row text rows a q t first count r ea eq et er = rw (← ea, ← eq, ← refused_is a.verdict, ← et) er

-- ---- what it says
module _ (text : List ℕ) (rows : List Check.Row) (first count : ℕ) where
  says_with : (q : Qso) (inexact : Bool) → Says text (row_with text rows q inexact first count) (entry_with text rows q inexact)
  unfolding row_with row_of entry_with
  says_with q inexact = record {
    call = refl;
    mode = refl;
    band = refl;
    moment = moment_back (moment_of (column_text text q Columns.qso_date) (column_text text q Columns.time_on));
    reason = refl;
    code = refl;
    bears = refl;
  }

  pub says_entry : Says text (entry_row text rows first count) (entry_of text rows)
  unfolding entry_row entry_of
  says_entry = says_with (normal_qso text (mapped text rows).qso) (is_refused (mapped text rows).verdict)

  module _ (table : List ℕ) (h : (first + count) * 5 ≤ length table) (e : rows_from table first count ≡ rows) where
    answers_with : (q : Qso) (inexact : Bool) → Answers text table (row_with text rows q inexact first count) (entry_with text rows q inexact)
    unfolding row_with row_of entry_with
    answers_with q inexact = record { inside = h; answers = rw e refl }

    pub answers_entry : Answers text table (entry_row text rows first count) (entry_of text rows)
    unfolding entry_row entry_of
    answers_entry = answers_with (normal_qso text (mapped text rows).qso) (is_refused (mapped text rows).verdict)

  -- nothing is settled
  pub bare_entry : (get_or (entry_row text rows first count) 0 0 ≡ 0) × (get_or (entry_row text rows first count) 2 0 ≡ 0) × (get_or (entry_row text rows first count) 24 0 ≡ 0) × (get_or (entry_row text rows first count) 25 0 ≡ 0)
  unfolding entry_row row_with row_of
  bare_entry = (refl, refl, refl, refl)
