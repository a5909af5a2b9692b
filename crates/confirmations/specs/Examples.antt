-- Worked examples.
use Rattle.std.specs.Prelude.{◌≡◌, refl, true, List, [], ◌∷◌, ℕ}
use Rattle.text.specs.Ascii.{ascii}
use Rattle.text.specs.Walk.{lead}
use Rattle.text.specs.Space.{space1, space2, space3, space80, space_len, space_back, width, trim_start, trim_end, trimmed, blank}
use Rattle.letters.specs.Capitals.{raised}
use Rattle.letters.specs.Same.{same_raised}
use Rattle.tables.specs.Place.{stands, part}
use Rattle.tables.specs.declared.Place.{Place}
use Rattle.confirmations.specs.declared.Answer.{Answer}
use Rattle.confirmations.specs.Confirmations.{says, date_at, answered, unanswered, attributed, stood, answers_of}

abbrev by : ℕ → Place → Answer
by service date = record { present = true; service = service; date = date }

-- a text of names and values, laid one after the other: "20260301" is the QSO's date
abbrev text : List ℕ
text = ascii "20260301app_lotw_xY 20260302 QSL_RCVDQSLRDATEEQSL_AGLOTW_QSL_RCVDn"

abbrev date : Place
date = stands 0 8

-- "app_lotw_x" is "Y", and QSL_RCVD is "Y ": lotw confirms, last, with the QSO's date
lotw_by_card : answers_of text ((1 ∷ 8 ∷ 10 ∷ 18 ∷ 1 ∷ []) ∷ (1 ∷ 29 ∷ 8 ∷ 18 ∷ 2 ∷ []) ∷ []) date
    ≡ unanswered ∷ unanswered ∷ unanswered ∷ by 1 (stands 0 8) ∷ []
unfolding answers_of says date_at answered attributed stood same_raised raised part trimmed trim_start trim_end blank lead space_len space_back width space1 space2 space3 space80
lotw_by_card = refl

-- EQSL_AG alone confirms by eqsl, and QSL_RCVD then is a card, with the date of QSLRDATE, trimmed
eqsl_and_card : answers_of text ((1 ∷ 45 ∷ 7 ∷ 0 ∷ 0 ∷ []) ∷ (1 ∷ 37 ∷ 8 ∷ 19 ∷ 10 ∷ []) ∷ (1 ∷ 29 ∷ 8 ∷ 18 ∷ 1 ∷ []) ∷ []) date
    ≡ unanswered ∷ by 2 (stands 0 8) ∷ unanswered ∷ by 8 (stands 20 8) ∷ []
unfolding answers_of says date_at answered attributed stood same_raised raised part trimmed trim_start trim_end blank lead space_len space_back width space1 space2 space3 space80
eqsl_and_card = refl

-- "n" is no confirmation
not_confirmed : answers_of text ((1 ∷ 52 ∷ 13 ∷ 65 ∷ 1 ∷ []) ∷ []) date ≡ unanswered ∷ unanswered ∷ unanswered ∷ unanswered ∷ []
unfolding answers_of says date_at answered attributed stood same_raised raised part trimmed trim_start trim_end blank lead space_len space_back width space1 space2 space3 space80
not_confirmed = refl
