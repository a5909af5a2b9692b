-- Worked examples.
use Rattle.std.specs.Prelude.{◌≡◌, refl, true, false, List, [], ◌∷◌, ◌++◌, ℕ, replicate, Some, None}
use Rattle.text.specs.Ascii.{ascii}
use Rattle.text.specs.Walk.{lead}
use Rattle.text.specs.Space.{space1, space2, space3, space80, space_len, space_back, width, trim_start, trim_end, trimmed}
use Rattle.letters.specs.Capitals.{raised}
use Rattle.letters.specs.Same.{same_raised}
use Rattle.tables.specs.Place.{stands}
use Rattle.contacts.specs.Contacts.{Contact, contact}
use Rattle.contacts.specs.Lists.{number_at, id_at, services_at}
use Rattle.chain.specs.Chain.{over}
use Rattle.index.specs.Rows.{low, high}
use Rattle.confirmations.specs.Confirmations.{unanswered}
use Rattle.confirmations.specs.declared.Answer.{Answer}
use Rattle.plan.specs.Entry.{Entry}
use Rattle.plan.specs.Fates.{fates_in}
use Rattle.plan.specs.Confirmed.{has_bit, same_unmatched, alike, counts, counted_at, new_at, old_at, new_to, already_to, unmatched_to}
use Rattle.entries.specs.Row.{Row}
use Rattle.counted.specs.Counted.{code_in}
use Rattle.tallies.specs.Tallies.{target, target_in, target_of, bits_of}
use Rattle.plan.specs.Cards.{no_card}
use Rattle.cards.specs.Carded.{hits_in, carded_as, cards_after}

abbrev by : ℕ → ℕ → Answer
by service place = record { present = true; service = service; date = stands place 8 }

abbrev ssb : List ℕ → List Answer → Entry
ssb call answers = record { call = call; mode = ascii "SSB"; band = ascii "40m"; moment = None; reason = 0; answers = answers }

-- lotw and eqsl for one contact, which has eqsl already; lotw for it once more; then lotw twice for a call that the log has not
abbrev records : List Entry
records =
    ssb (ascii "W1AW") (by 1 10 ∷ by 2 20 ∷ unanswered ∷ unanswered ∷ [])
    ∷ ssb (ascii "w1aw") (by 1 30 ∷ unanswered ∷ unanswered ∷ unanswered ∷ [])
    ∷ ssb (ascii "K1ABC") (by 1 50 ∷ unanswered ∷ unanswered ∷ unanswered ∷ [])
    ∷ ssb (ascii " k1abc") (by 1 70 ∷ unanswered ∷ unanswered ∷ unanswered ∷ [])
    ∷ []

-- contact 1 of the log has an id above 2^32
abbrev log : List Contact
log = contact 4294967303 2 (ascii "w1aw") [] [] (ascii "40m") (ascii "SSB") ∷ []

abbrev settled : ℕ → ℕ → Row
settled fate hit = (fate ∷ replicate 21 0) ++ (hit ∷ [])

abbrev rows : List Row
rows = settled 5 1 ∷ settled 5 1 ∷ settled 6 0 ∷ settled 6 0 ∷ []

-- one to record, one known already, one unmatched; there is room for one, and not in an empty table
one_of_each : carded_as log records 4 rows 1 ≡ Some (record { confirmations = 1; already = 1; unmatched = 1 })
unfolding carded_as hits_in fates_in new_to already_to unmatched_to new_at old_at counted_at counts alike same_unmatched has_bit over same_raised raised trimmed trim_start trim_end lead space_len space_back width space1 space2 space3 space80
one_of_each = refl

no_room : carded_as log records 4 rows 0 ≡ None
unfolding carded_as hits_in fates_in new_to already_to unmatched_to new_at old_at counted_at counts alike same_unmatched has_bit over same_raised raised trimmed trim_start trim_end lead space_len space_back width space1 space2 space3 space80
no_room = refl

-- its row, and the one behind as it was
one_row : cards_after log records 4 rows (no_card ∷ no_card ∷ []) ≡ (7 ∷ 1 ∷ 1 ∷ 10 ∷ 8 ∷ []) ∷ no_card ∷ []
unfolding cards_after hits_in fates_in new_to new_at counted_at counts alike same_unmatched has_bit over same_raised raised trimmed trim_start trim_end lead space_len space_back width space1 space2 space3 space80 low high
one_row = refl

-- lotw and qrz as bits
two_bits : bits_of true false true false ≡ 5
unfolding bits_of
two_bits = refl

-- the contact at place 5 of a list, with eqsl and an id of 2^32 and 7; of fate 6 there is none
abbrev list : List ℕ
list = replicate 10 0 ++ (1 ∷ 0 ∷ 0 ∷ 0 ∷ 7 ∷ 2 ∷ [])

first_contact : target_of list 5 1 5 ≡ target true 2 7 1
unfolding target_of target_in id_at services_at number_at low high
first_contact = refl

no_contact_lem : target_of list 6 1 5 ≡ target false 0 0 0
unfolding target_of
no_contact_lem = refl

-- a confirmed record has its contact's chain
contact_code : code_in (settled 5 3) ≡ 3
unfolding code_in
contact_code = refl
