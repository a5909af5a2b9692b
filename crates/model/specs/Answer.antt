-- Which QSOs are QSOs of a text, and what normalising one answers.
use Rattle.std.specs.Prelude.{ℕ, ◌+◌, Bool, true, List, [], ◌∷◌, eqb, leb, ltb, length, replicate, Ok, Err}
use Rattle.text.specs.Pick.{pick, both, either}
use Rattle.text.specs.Utf8.{utf8}
use Rattle.refusals.specs.declared.Refusal.{Refusal}
use Rattle.refusals.specs.declared.Refusal.TheVariants.{TooLong, BadRow}
use Rattle.tables.specs.Bands.{band_names}
use Rattle.tables.specs.Modes.{mode_names}
use Rattle.tables.specs.Place.{absent, part, in_text, is_absent}
use Rattle.tables.specs.declared.Place.{Place}
use Rattle.normalize.specs.Normal.{modal}
use Rattle.columns.specs.Columns.{mode, submode}
use Rattle.model.specs.Flags.{is_flag}
use Rattle.model.specs.Contact.{place_of}
use Rattle.model.specs.Normal.{normal_qso}
use Rattle.model.specs.declared.Qso.{Qso}
use Rattle.model.specs.declared.Frequency.{Frequency}
use Rattle.model.specs.declared.Dxcc.{Dxcc}
use Rattle.model.specs.declared.Answer.{Answer}

-- a part inside the text and of whole characters
unfoldable pub is_part : List ℕ → Place → Bool
is_part text p = both (leb (p.start + p.len) (length text)) (utf8 (part text p))

-- absent, or an entry that its table has
unfoldable pub is_entry : Place → Bool
is_entry p =
    either (is_absent p)
    (either (both (eqb p.kind 3) (ltb p.start (length band_names))) (both (eqb p.kind 4) (ltb p.start (length mode_names))))

unfoldable pub is_fit : List ℕ → Place → Bool
is_fit text p = pick (in_text p) (is_part text p) (is_entry p)

abbrev pub are_fit : List ℕ → List Place → Bool
are_fit text [] = true
are_fit text (p ∷ ps) = both (is_fit text p) (are_fit text ps)

-- every column stands for a text, and the mode and the submode are no entries of the bands
unfoldable pub is_placed : List ℕ → Qso → Bool
is_placed text q = both (are_fit text q.columns) (both (modal (place_of q mode)) (modal (place_of q submode)))

-- each flag is 0 or 1, also one that nothing else looks at
unfoldable pub is_flagged : Qso → Bool
is_flagged q =
    both (both (is_flag q.freq.given) (is_flag q.freq_rx.given))
    (both (is_flag q.dxcc.given) (is_flag q.dxcc.negative))

-- else 11
unfoldable pub is_qso : List ℕ → Qso → Bool
is_qso text q = both (is_flagged q) (is_placed text q)

-- ---- QSOs made
abbrev pub no_frequency : Frequency
no_frequency = record { given = 0; hz = 0 }

abbrev pub no_dxcc : Dxcc
no_dxcc = record { given = 0; negative = 0; size = 0 }

abbrev pub no_columns : List Place
no_columns = replicate 13 absent

abbrev pub empty_qso : Qso
empty_qso = record { columns = no_columns; freq = no_frequency; freq_rx = no_frequency; dxcc = no_dxcc }

-- ---- answers
abbrev pub accepted : Qso → Answer
accepted q = record { qso = q; verdict = Ok tt }

abbrev pub refused : Refusal → Qso → Answer
refused why q = record { qso = q; verdict = Err why }

-- 1 for the text, then 11; a QSO that is refused comes back unchanged
unfoldable pub normalized_to : List ℕ → Qso → Answer
normalized_to text q = pick (leb (length text) 16777216) (pick (is_qso text q) (accepted (normal_qso text q)) (refused BadRow q)) (refused TooLong q)
