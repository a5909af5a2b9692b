-- The confirmations that a record bears, after `confirmations_in` of `import.rs`: the answers of four services, in its order. They are
-- lotw, eqsl, qrz, and last what QSL_RCVD gives, a card or lotw's, unless that service already stands.
use Rattle.std.specs.Prelude.{Bool, true, false, not, List, [], ◌∷◌, ℕ, ◌+◌, eqb, length, take}
use Rattle.text.specs.Pick.{pick, both, either}
use Rattle.text.specs.Ascii.{ascii}
use Rattle.text.specs.Space.{trim_start, trimmed, blank}
use Rattle.letters.specs.Same.{same_raised}
use Rattle.rowcheck.specs.Check.{Row, name_in}
use Rattle.tables.specs.Place.{absent, stands, value_place, part, or_else}
use Rattle.tables.specs.declared.Place.{Place}
use Rattle.confirmations.specs.declared.Answer.{Answer}

-- the services, as the bits of a contact's byte
abbrev pub lotw : ℕ
lotw = 1

abbrev pub eqsl : ℕ
eqsl = 2

abbrev pub qrz : ℕ
qrz = 4

abbrev pub qsl : ℕ
qsl = 8

-- ---- fields by their names, the case of letters aside
-- a name, and a name that begins so
abbrev pub named : List ℕ → List ℕ → Bool
named wanted name = same_raised name wanted

abbrev pub begins : List ℕ → List ℕ → Bool
begins front name = same_raised (take (length front) name) front

-- the value of the record's first field whose name passes the test, absent where it has none
abbrev pub value_where : (List ℕ → Bool) → List ℕ → List Row → Place
value_where test text [] = absent
value_where test text (r ∷ rs) = pick (test (name_in text r)) (value_place r) (value_where test text rs)

-- whether the record has a field whose name passes the test
abbrev pub has_where : (List ℕ → Bool) → List ℕ → List Row → Bool
has_where test text [] = false
has_where test text (r ∷ rs) = either (test (name_in text r)) (has_where test text rs)

-- ---- what a value says
-- the letter, white space and its case aside; an absent value says nothing
unfoldable pub says : List ℕ → Place → List ℕ → Bool
says text p letter = same_raised (trimmed (part text p)) letter

-- a date without the white space at its ends; absent where that leaves nothing
unfoldable pub date_at : List ℕ → Place → Place
date_at text p = pick (blank (part text p)) absent (stands (p.start + trim_start (part text p)) (length (trimmed (part text p))))

-- ---- one service
abbrev pub unanswered : Answer
unanswered = record { present = false; service = 0; date = absent }

unfoldable pub answered : Bool → ℕ → Place → Answer
answered bears service date = pick bears (record { present = true; service = service; date = date }) unanswered

-- the service that QSL_RCVD speaks for: lotw or eqsl where the record has a field of theirs, and else a card
unfoldable pub attributed : Bool → Bool → ℕ
attributed ofLotw ofEqsl = pick ofLotw lotw (pick ofEqsl eqsl qsl)

-- lotw or eqsl already stands
unfoldable pub stood : Bool → Bool → ℕ → Bool
stood by_lotw by_eqsl service = either (both (eqb service lotw) by_lotw) (both (eqb service eqsl) by_eqsl)

-- ---- a record's rows, and the date of its QSO
module _ (text : List ℕ) (rows : List Row) (date : Place) where
  abbrev pub field : (List ℕ → Bool) → Place
  field test = value_where test text rows

  abbrev pub has : (List ℕ → Bool) → Bool
  has test = has_where test text rows

  abbrev pub is_y : List ℕ → Bool
  is_y name = says text (field (named name)) (ascii "Y")

  -- the date in the field of that name, and else the QSO's own
  abbrev pub dated : List ℕ → Place
  dated name = or_else (date_at text (field (named name))) (date_at text date)

  abbrev pub by_lotw : Bool
  by_lotw = is_y (ascii "LOTW_QSL_RCVD")

  abbrev pub by_eqsl : Bool
  by_eqsl = either (is_y (ascii "EQSL_QSL_RCVD")) (either (has (named (ascii "EQSL_AG"))) (has (begins (ascii "APP_EQSL"))))

  abbrev pub by_qrz : Bool
  by_qrz = says text (field (named (ascii "APP_QRZLOG_STATUS"))) (ascii "C")

  abbrev pub received : ℕ
  received = attributed (has (begins (ascii "APP_LOTW"))) (has (begins (ascii "APP_EQSL")))

  unfoldable pub answers_of : List Answer
  answers_of =
      answered by_lotw lotw (dated (ascii "LOTW_QSLRDATE"))
      ∷ answered by_eqsl eqsl (dated (ascii "EQSL_QSLRDATE"))
      ∷ answered by_qrz qrz (dated (ascii "APP_QRZLOG_QSLDATE"))
      ∷ answered (both (is_y (ascii "QSL_RCVD")) (not (stood by_lotw by_eqsl received))) received (dated (ascii "QSLRDATE"))
      ∷ []
