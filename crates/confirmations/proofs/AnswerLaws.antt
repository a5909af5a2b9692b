-- Dates and answers. Assumes nothing.
use mathlib.Core.Path.{◌≡◌, refl, ◌∙◌}
use mathlib.Core.Bool.{Bool, true, false, not}
use mathlib.Core.List.{List, [], ◌∷◌}
use Prim.Native.Nat.{ℕ, ◌+◌, ◌-◌}
use lib.ListN.{length, take, drop}
use lib.Seq.{length-take-le}
use borrow.Author.Tests.{eq-eqb, ne_eqb}
use Rattle.text.specs.Pick.{both}
use Rattle.text.specs.Ascii.{ascii}
use Rattle.text.specs.Space.{trim_start, trim_end, trimmed, blank}
use Rattle.text.proofs.SpaceLaws.{rest, end_le}
use Rattle.rowcheck.specs.Check.{Row}
use Rattle.tables.specs.Place.{absent, stands, part, or_else}
use Rattle.tables.specs.declared.Place.{Place}
use Rattle.confirmations.specs.declared.Answer.{Answer}
use Rattle.confirmations.specs.declared.Heard.{Heard}
use Rattle.confirmations.specs.Confirmations.{says, date_at, unanswered, answered, attributed, stood, answers_of}
use Rattle.confirmations.specs.Heard.{heard_of, answer_by, eqsl_by, card_by, answers_by}

module _ (text : List ℕ) (p : Place) (s : List ℕ) (es : s ≡ part text p) (a : ℕ) (ea : a ≡ trim_start s) where
  pub no_date : (r : Place) → a ≡ length s → r ≡ absent → r ≡ date_at text p
  unfolding date_at blank
  no_date r h e = e ∙ rw (← es, ← ea, eq-eqb a (length s) h) refl

  pub a_date : (n : ℕ) (r : Place) → (a ≡ length s → ⊥) → n ≡ trim_end (take (length s - a) (drop a s)) → r ≡ stands (p.start + a) n → r ≡ date_at text p
  unfolding date_at blank trimmed
  a_date n r h en er =
      er
      ∙ rw
      (← es, ← ea, ne_eqb a (length s) h, length-take-le (trim_end (drop a s)) (drop a s) (end_le (drop a s)), en, rest s a)
      refl

module _ (text : List ℕ) (bears : Bool) (service : ℕ) (own date : Place) where
  pub answer_yes : (x y d : Place) → bears ≡ true → x ≡ date_at text own → y ≡ date_at text date → d ≡ or_else x y
      → (record { present = true; service = service; date = d }) ≡ answer_by text bears service own date
  unfolding answer_by answered
  answer_yes x y d h ex ey ed = rw (h, ← ex, ← ey, ← ed) refl

  pub answer_no : (r : Answer) → bears ≡ false → r ≡ unanswered → r ≡ answer_by text bears service own date
  unfolding answer_by answered
  answer_no r h e = e ∙ rw h refl

module _ (l e : Bool) where
  pub to_lotw : l ≡ true → 1 ≡ attributed l e
  unfolding attributed
  to_lotw h = rw h refl

  pub to_eqsl : l ≡ false → e ≡ true → 2 ≡ attributed l e
  unfolding attributed
  to_eqsl h g = rw (h, g) refl

  pub to_card : l ≡ false → e ≡ false → 8 ≡ attributed l e
  unfolding attributed
  to_card h g = rw (h, g) refl

pub card_is : (text : List ℕ) (h : Heard) (l e : Bool) (date : Place) (service : ℕ) (stands s bears : Bool) (r : Answer)
    → service ≡ attributed h.of_lotw h.of_eqsl → stands ≡ stood l e service → s ≡ says text h.card.value (ascii "Y") → bears ≡ both s (not stands)
    → r ≡ answer_by text bears service h.card.date date → r ≡ card_by text h l e date
unfolding card_by
card_is text h l e date service stands s bears r ev et es eb er = er ∙ rw (eb, es, et, ev) refl

pub answers_are : (text : List ℕ) (h : Heard) (date : Place) (l e q : Bool) (a b c d : Answer)
    → l ≡ says text h.lotw.value (ascii "Y") → e ≡ eqsl_by text h → q ≡ says text h.qrz.value (ascii "C")
    → a ≡ answer_by text l 1 h.lotw.date date → b ≡ answer_by text e 2 h.eqsl.date date → c ≡ answer_by text q 4 h.qrz.date date → d ≡ card_by text h l e date
    → a ∷ b ∷ c ∷ d ∷ [] ≡ answers_by text h date
unfolding answers_by
answers_are text h date l e q a b c d el ee eq ea eb ec ed = rw (← el, ← ee, ← eq, ← ea, ← eb, ← ec, ← ed) refl

pub by_rows : (text : List ℕ) (rows : List Row) (date : Place) (h : Heard) (r : List Answer) → h ≡ heard_of text rows → r ≡ answers_by text h date → r ≡ answers_of text rows date
unfolding answers_of answers_by answer_by eqsl_by card_by heard_of
by_rows text rows date h r eh er = er ∙ rw eh refl
