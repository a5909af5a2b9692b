-- Which rows the writer takes, row by row.
use Rattle.std.specs.declared.cmp.Ordering.{Ordering}
use Rattle.std.specs.declared.cmp.Ordering.TheVariants.{Less, Equal, Greater}
use Rattle.refusals.specs.declared.Refusal.{Refusal}
use Rattle.std.specs.Prelude.{Bool, true, false, List, [], ◌∷◌, ℕ, ◌+◌, length, get_or, leb, ltb, eqb, ⊤, Result, Ok, Err}
use Rattle.text.specs.Pick.{pick, both, either}
use Rattle.text.specs.Walk.{ends}
use Rattle.text.specs.Find.{other}
use Rattle.text.specs.Utf8.{utf8}
use Rattle.text.specs.Space.{trim_start, trim_end}
use Rattle.letters.specs.Order.{order_raised}
use Rattle.tags.specs.Tags.{colon, gt, kind_of}
use Rattle.tags.specs.declared.Kind.{Kind}
use Rattle.tags.specs.declared.Kind.TheVariants.{EndOfHeader, EndOfRecord, EndOfFile, FieldName}
use Rattle.adif.specs.Reading.{part}
use Rattle.refusals.specs.declared.Refusal.TheVariants.{BadRow, BadName, ManyNames, ManyRecords}

-- a row of the lent table: the record's number, the name's place and length, the value's place and length
abbrev pub Row : Type 0
Row = List ℕ

abbrev pub record_in : Row → ℕ
record_in r = get_or r 0 0

abbrev pub name_in : List ℕ → Row → List ℕ
name_in text r = part text (get_or r 1 0) (get_or r 2 0)

abbrev pub value_in : List ℕ → Row → List ℕ
value_in text r = part text (get_or r 3 0) (get_or r 4 0)

-- 11: a place outside the text; a part that is not UTF-8
unfoldable pub placed : List ℕ → Row → Bool
placed text r = both (leb (get_or r 1 0 + get_or r 2 0) (length text)) (leb (get_or r 3 0 + get_or r 4 0) (length text))

unfoldable pub sound : List ℕ → Row → Bool
sound text r = both (utf8 (name_in text r)) (utf8 (value_in text r))

-- 11: out of order. After row p of record n comes the next record, or the same with a higher name; the first is record 1
abbrev pub is_less : Ordering → Bool
is_less Less = true
is_less Equal = false
is_less Greater = false

unfoldable pub follows : List ℕ → ℕ → Row → Row → Bool
follows text n p r =
    either (eqb (record_in r) (n + 1)) (both (both (ltb 0 n) (eqb (record_in r) n)) (is_less (order_raised (name_in text p) (name_in text r))))

-- 12: a name that is trimmed, has no ":" or ">", and is no control name
unfoldable pub lacks : ℕ → List ℕ → Bool
lacks b xs = eqb (ends (other b) xs 0) (length xs)

abbrev pub is_field : Kind → Bool
is_field EndOfHeader = false
is_field EndOfRecord = false
is_field EndOfFile = false
is_field FieldName = true

unfoldable pub writable : List ℕ → Bool
writable xs =
    both (both (eqb (trim_start xs) 0) (eqb (trim_end xs) (length xs))) (both (both (lacks colon xs) (lacks gt xs)) (is_field (kind_of xs)))

-- 8: how many names the record has with r, where record n had c
unfoldable pub counted : ℕ → ℕ → Row → ℕ
counted n c r = pick (eqb (record_in r) n) (c + 1) 1

-- the row r after row p, which was the c-th of record n: 11, 12, 8, 9
unfoldable pub verdict : List ℕ → ℕ → ℕ → Row → Row → Result ⊤ Refusal
verdict text n c p r =
    pick (placed text r)
    (pick (sound text r)
    (pick (follows text n p r)
    (pick (writable (name_in text r))
    (pick (leb (counted n c r) 256)
    (pick (leb (record_in r) 65535) (Ok tt) (Err (ManyRecords 0)))
    (Err (ManyNames 0)))
    (Err BadName))
    (Err BadRow))
    (Err BadRow))
    (Err BadRow)

abbrev pub is_fine : Result ⊤ Refusal → Bool
is_fine (Ok tt) = true
is_fine (Err why) = false

-- the first verdict that is not fine
abbrev pub and_then : Result ⊤ Refusal → Result ⊤ Refusal → Result ⊤ Refusal
and_then (Ok tt) w = w
and_then (Err why) w = Err why

unfoldable pub check_from : List ℕ → ℕ → ℕ → Row → List Row → Result ⊤ Refusal
check_from text n c p [] = Ok tt
check_from text n c p (r ∷ rs) = and_then (verdict text n c p r) (check_from text (record_in r) (counted n c r) r rs)

-- all rows, before which there is no record
unfoldable pub check_of : List ℕ → List Row → Result ⊤ Refusal
check_of text rs = check_from text 0 0 (0 ∷ 0 ∷ 0 ∷ 0 ∷ 0 ∷ []) rs
