-- A record of the file as the plan sees it: mapped and normalised.
use Rattle.refusals.specs.declared.Refusal.{Refusal}
use Rattle.std.specs.Prelude.{Bool, true, false, List, [], ◌∷◌, map, ℕ, suc, ⊤, Option, None, Result, Ok, Err}
use Rattle.adif.specs.Records.{records, refused}
use Rattle.adif.specs.Reading.{Row as Field, RowsRead}
use Rattle.hand.specs.Rows.{numbered}
use Rattle.rowcheck.specs.Check.{Row}
use Rattle.times.specs.Moments.{moment_of}
use Rattle.columns.specs.Columns
use Rattle.model.specs.Contact.{place_of, column_text}
use Rattle.model.specs.Normal.{normal_qso}
use Rattle.model.specs.declared.Qso.{Qso}
use Rattle.mapping.specs.Mapping.{mapped}
use Rattle.confirmations.specs.Confirmations.{answers_of}
use Rattle.confirmations.specs.declared.Answer.{Answer}
use Rattle.usable.specs.Reasons.{reason_in}

-- its call, mode and band; when it was, if that is known; why it is unusable, or 0; what the services say of it
pub record Entry : Type 0 where
  pub call : List ℕ
  pub mode : List ℕ
  pub band : List ℕ
  pub moment : Option ℕ
  pub reason : ℕ
  pub answers : List Answer

abbrev pub no_entry : Entry
no_entry = record { call = []; mode = []; band = []; moment = None; reason = 0; answers = [] }

-- refused with 15: a frequency is outside the exact window
abbrev pub is_refused : Result ⊤ Refusal → Bool
is_refused (Ok tt) = false
is_refused (Err why) = true

unfoldable pub entry_with : List ℕ → List Row → Qso → Bool → Entry
entry_with text rows q inexact = record {
  call = column_text text q Columns.call;
  mode = column_text text q Columns.mode;
  band = column_text text q Columns.band;
  moment = moment_of (column_text text q Columns.qso_date) (column_text text q Columns.time_on);
  reason = reason_in text q inexact;
  answers = answers_of text rows (place_of q Columns.qso_date);
}

unfoldable pub entry_of : List ℕ → List Row → Entry
entry_of text rows = entry_with text rows (normal_qso text (mapped text rows).qso) (is_refused (mapped text rows).verdict)

-- the records that were read, the first of which is record n; a reading that is refused has none
abbrev pub entries_from : List ℕ → ℕ → List (List Field) → List Entry
entries_from text n [] = []
entries_from text n (r ∷ rs) = entry_of text (map (numbered n) r) ∷ entries_from text (suc n) rs

unfoldable pub entries_of : List ℕ → RowsRead → List Entry
entries_of text (records rs) = entries_from text 1 rs
entries_of text (refused why) = []
