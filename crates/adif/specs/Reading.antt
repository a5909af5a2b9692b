-- The reading of an ADIF text, tag by tag, with places in the text for names and values.
use Rattle.tags.specs.declared.Tag.TheVariants.{End, Eof, Eoh, Eor, Field}
use Rattle.tags.specs.declared.Tag.{Tag}
use Rattle.std.specs.Prelude.{List, [], ◌∷◌, ℕ, ◌+◌, length, get_or, take, drop, ⊤, Result, Ok, Err}
use Rattle.text.specs.Run.{Next, go, stop, run}
use Rattle.letters.specs.Capitals.{capitals}
use Rattle.refusals.specs.Refusals.{of_text}
use Rattle.refusals.specs.declared.Refusal.{Refusal}
use Rattle.refusals.specs.declared.Refusal.TheVariants.{ManyNames, ManyRecords, FewRows}
use Rattle.tags.specs.Tags.{tag_at}
use Rattle.adif.specs.Records.{Fields, eoh, eor, field, Outcome, records, refused, Turn, on, no, act, finish}

-- a row: the name's place and length, and the value's
abbrev pub Row : Type 0
Row = List ℕ

-- the n bytes of the text from `at` on
abbrev pub part : List ℕ → ℕ → ℕ → List ℕ
part s at n = take n (drop at s)

unfoldable pub row_name : List ℕ → Row → List ℕ
row_name s r = capitals (part s (get_or r 0 0) (get_or r 1 0))

unfoldable pub row_value : List ℕ → Row → List ℕ
row_value s r = part s (get_or r 2 0) (get_or r 3 0)

abbrev pub RowsRead : Type 0
RowsRead = Outcome Row Refusal

-- of a tag at `at`, which is told where one of the limits is passed there
abbrev pub rows : List ℕ → ℕ → Fields Row Refusal
rows s at = record { name = row_name s; many_names = ManyNames at; many_records = ManyRecords at; few_rows = FewRows at }

-- the record in hand, and the closed records
abbrev pub State : Type 0
State = List Row × List (List Row)

abbrev pub onto : ℕ → Turn Row Refusal → Next State RowsRead
onto next (on hand done) = go next (hand, done)
onto next (no w) = stop (refused w)

-- what the next tag makes of them. The end and an APP_LOTW_EOF tell the text's length; the header's end refuses nothing
abbrev pub read_by : List ℕ → ℕ → List Row → List (List Row) → Result Tag Refusal → Next State RowsRead
read_by s room hand done (Ok End) = stop (finish (rows s (length s)) room hand done)
read_by s room hand done (Ok Eof) = stop (finish (rows s (length s)) room hand done)
read_by s room hand done (Ok (Eoh next)) = onto next (act (rows s 0) room hand done eoh)
read_by s room hand done (Ok (Eor at next)) = onto next (act (rows s at) room hand done eor)
read_by s room hand done (Ok (Field at a k v n)) = onto (v + n) (act (rows s at) room hand done (field (a ∷ k ∷ v ∷ n ∷ [])))
read_by s room hand done (Err w) = stop (refused w)

abbrev pub read_run : List ℕ → ℕ → ℕ → State → RowsRead
read_run s room = run (λ at st. read_by s room st.0 st.1 (tag_at s at)) (records []) (length s)

-- the tags of the whole text, where the lent table has `room` rows
unfoldable pub read_tags : List ℕ → ℕ → RowsRead
read_tags s room = read_run s room 0 ([], [])

abbrev pub accepted : Result ⊤ Refusal → RowsRead → RowsRead
accepted (Ok tt) r = r
accepted (Err w) r = refused w

-- 1 and 2, and then the tags
unfoldable pub read_text : List ℕ → ℕ → RowsRead
read_text s room = accepted (of_text s) (read_tags s room)
