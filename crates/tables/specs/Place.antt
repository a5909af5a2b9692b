-- A place: where the bytes of a text result stand. They are a part of the text, as it stands or in capitals, or an entry of
-- the table of bands or of modes; or there are none, and the result is absent.
use Rattle.std.specs.Prelude.{ℕ, ◌+◌, Bool, List, [], ◌∷◌, ◌++◌, eqb, length, get_or, take, drop, Some, None, Option}
use Rattle.text.specs.Pick.{pick, both, either}
use Rattle.text.specs.Space.{trim_start, trimmed}
use Rattle.letters.specs.Capitals.{capitals}
use Rattle.tables.specs.Table.{entry}
use Rattle.tables.specs.Bands.{band_names}
use Rattle.tables.specs.Modes.{mode_names}
use Rattle.tables.specs.declared.Name.{Name}
use Rattle.tables.specs.declared.Place.{Place}

abbrev pub place : ℕ → ℕ → ℕ → Place
place k a n = record { kind = k; start = a; len = n }

-- the five kinds
abbrev pub absent : Place
absent = place 0 0 0

abbrev pub stands : ℕ → ℕ → Place
stands a n = place 1 a n

abbrev pub in_capitals : ℕ → ℕ → Place
in_capitals a n = place 2 a n

abbrev pub band_entry : ℕ → Place
band_entry k = place 3 k 0

abbrev pub mode_entry : ℕ → Place
mode_entry k = place 4 k 0

-- the place of the value in a row of five numbers: record, place and length of a name, place and length of a value
abbrev pub value_place : List ℕ → Place
value_place r = stands (get_or r 3 0) (get_or r 4 0)

-- the place is in the text
abbrev pub in_text : Place → Bool
in_text p = either (eqb p.kind 1) (eqb p.kind 2)

-- the part of the text at which the place is, empty where it is not in the text
unfoldable pub part : List ℕ → Place → List ℕ
part text p = pick (in_text p) (take p.len (drop p.start text)) []

-- what the place stands for. An entry that its table does not have, and a kind that is none of the five, stand for nothing
unfoldable pub value : List ℕ → Place → Option (List ℕ)
value text p =
    pick (eqb p.kind 1) (Some (part text p))
    (pick (eqb p.kind 2) (Some (capitals (part text p)))
    (pick (eqb p.kind 3) (entry band_names p.start)
    (pick (eqb p.kind 4) (entry mode_names p.start)
    None)))

abbrev pub or_empty : Option (List ℕ) → List ℕ
or_empty None = []
or_empty (Some x) = x

-- the bytes of a place, where no difference is made between absent and empty
abbrev pub bytes : List ℕ → Place → List ℕ
bytes text p = or_empty (value text p)

-- the entry of a band that was looked for
abbrev pub band_place : Option ℕ → Place
band_place (Some k) = band_entry k
band_place None = absent

-- a name with its length, in twelve bytes that are 0 after it
abbrev pub spelled : List ℕ → Name
spelled x = record { bytes = take 12 (x ++ (0 ∷ 0 ∷ 0 ∷ 0 ∷ 0 ∷ 0 ∷ 0 ∷ 0 ∷ 0 ∷ 0 ∷ 0 ∷ 0 ∷ [])); len = length x }

abbrev pub no_name : Name
no_name = spelled []

-- entry k of a column of names in a fixed width and of the column of their lengths
unfoldable pub name_at : List (List ℕ) → List ℕ → ℕ → Name
name_at names lens k = record { bytes = get_or names k no_name.bytes; len = get_or lens k 0 }

-- the name of an entry; no name for a place that is none
unfoldable pub name_of : Place → Name
name_of p =
    pick (eqb p.kind 3) (spelled (or_empty (entry band_names p.start)))
    (pick (eqb p.kind 4) (spelled (or_empty (entry mode_names p.start)))
    no_name)

-- trimmed, and in capitals; an entry of a table is both already
unfoldable pub tidy : List ℕ → Place → Place
tidy text p = pick (in_text p) (in_capitals (p.start + trim_start (part text p)) (length (trimmed (part text p)))) p

abbrev pub is_absent : Place → Bool
is_absent p = eqb p.kind 0

-- absent, or a part of no bytes
abbrev pub is_empty : Place → Bool
is_empty p = either (is_absent p) (both (in_text p) (eqb p.len 0))

abbrev pub or_else : Place → Place → Place
or_else p q = pick (is_absent p) q p
