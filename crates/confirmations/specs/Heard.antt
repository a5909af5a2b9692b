-- What one pass over a record's rows keeps: for each service the value that tells and the one with the date, and whether the fields are
-- there that tell by their names alone.
use Rattle.std.specs.Prelude.{Bool, not, List, [], ◌∷◌, ℕ, eqb}
use Rattle.text.specs.Pick.{pick, both, either}
use Rattle.text.specs.Ascii.{ascii}
use Rattle.letters.specs.Capitals.{raised}
use Rattle.rowcheck.specs.Check.{Row}
use Rattle.tables.specs.Place.{or_else}
use Rattle.tables.specs.declared.Place.{Place}
use Rattle.confirmations.specs.declared.Answer.{Answer}
use Rattle.confirmations.specs.declared.Said.{Said}
use Rattle.confirmations.specs.declared.Heard.{Heard}
use Rattle.confirmations.specs.Confirmations.{lotw, eqsl, qrz, named, begins, value_where, has_where, says, date_at, answered, attributed, stood}

-- the values of two names
abbrev pub said_of : List ℕ → List ℕ → List ℕ → List Row → Said
said_of wanted dated text rows = record { value = value_where (named wanted) text rows; date = value_where (named dated) text rows }

unfoldable pub heard_of : List ℕ → List Row → Heard
heard_of text rows = record {
  lotw = said_of (ascii "LOTW_QSL_RCVD") (ascii "LOTW_QSLRDATE") text rows;
  eqsl = said_of (ascii "EQSL_QSL_RCVD") (ascii "EQSL_QSLRDATE") text rows;
  qrz = said_of (ascii "APP_QRZLOG_STATUS") (ascii "APP_QRZLOG_QSLDATE") text rows;
  card = said_of (ascii "QSL_RCVD") (ascii "QSLRDATE") text rows;
  has_ag = has_where (named (ascii "EQSL_AG")) text rows;
  of_eqsl = has_where (begins (ascii "APP_EQSL")) text rows;
  of_lotw = has_where (begins (ascii "APP_LOTW")) text rows;
}

-- with one more row in front, of that name and value
unfoldable pub said_with : List ℕ → Place → List ℕ → List ℕ → Said → Said
said_with name v wanted dated s = record { value = pick (named wanted name) v s.value; date = pick (named dated name) v s.date }

unfoldable pub heard_with : List ℕ → Place → Heard → Heard
heard_with name v h = record {
  lotw = said_with name v (ascii "LOTW_QSL_RCVD") (ascii "LOTW_QSLRDATE") h.lotw;
  eqsl = said_with name v (ascii "EQSL_QSL_RCVD") (ascii "EQSL_QSLRDATE") h.eqsl;
  qrz = said_with name v (ascii "APP_QRZLOG_STATUS") (ascii "APP_QRZLOG_QSLDATE") h.qrz;
  card = said_with name v (ascii "QSL_RCVD") (ascii "QSLRDATE") h.card;
  has_ag = either (named (ascii "EQSL_AG") name) h.has_ag;
  of_eqsl = either (begins (ascii "APP_EQSL") name) h.of_eqsl;
  of_lotw = either (begins (ascii "APP_LOTW") name) h.of_lotw;
}

-- the first and the third letter of such names: A, E, L or Q, and L, P, S or T
unfoldable pub telling : ℕ → ℕ → Bool
telling a c =
    both (either (eqb (raised a) 65) (either (eqb (raised a) 69) (either (eqb (raised a) 76) (eqb (raised a) 81))))
    (either (eqb (raised c) 76) (either (eqb (raised c) 80) (either (eqb (raised c) 83) (eqb (raised c) 84))))

-- ---- the answers by what is kept
unfoldable pub answer_by : List ℕ → Bool → ℕ → Place → Place → Answer
answer_by text bears service own date = answered bears service (or_else (date_at text own) (date_at text date))

unfoldable pub eqsl_by : List ℕ → Heard → Bool
eqsl_by text h = either (says text h.eqsl.value (ascii "Y")) (either h.has_ag h.of_eqsl)

unfoldable pub card_by : List ℕ → Heard → Bool → Bool → Place → Answer
card_by text h by_lotw by_eqsl date =
    answer_by text (both (says text h.card.value (ascii "Y")) (not (stood by_lotw by_eqsl (attributed h.of_lotw h.of_eqsl))))
    (attributed h.of_lotw h.of_eqsl)
    h.card.date
    date

unfoldable pub answers_by : List ℕ → Heard → Place → List Answer
answers_by text h date =
    answer_by text (says text h.lotw.value (ascii "Y")) lotw h.lotw.date date
    ∷ answer_by text (eqsl_by text h) eqsl h.eqsl.date date
    ∷ answer_by text (says text h.qrz.value (ascii "C")) qrz h.qrz.date date
    ∷ card_by text h (says text h.lotw.value (ascii "Y")) (eqsl_by text h) date
    ∷ []
