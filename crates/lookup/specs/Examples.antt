-- Worked examples.
use Rattle.std.specs.Prelude.{◌≡◌, refl, List, [], ◌∷◌, ◌++◌, ℕ, Ok, Err}
use Rattle.text.specs.Ascii.{ascii}
use Rattle.text.specs.Walk.{lead}
use Rattle.text.specs.Utf8.{char_len, long_char, second3, second4, valid_up_to, utf8}
use Rattle.refusals.specs.declared.Refusal.TheVariants.{ShortTable}
use Rattle.contacts.specs.Contacts.{plain, is_date, is_time, sound_head, sound_texts, sound}
use Rattle.contacts.specs.Lists.{number_at, text_at, after, call_at, date_at, time_at, band_at, mode_at, end_at, id_at, services_at, contact_at, fits, good_at, entries_from, count_of, listed_as}
use Rattle.index.specs.Rows.{no_row}
use Rattle.indexing.specs.Index.{index_of, indexed_by, indexed_as, index_by}
use Rattle.lookup.specs.Lookup.{searched_by, searched_as, index_left}

-- one contact to look up, and no number lent for it
no_number : searched_by 0 (Ok (record { contacts = 3; largest = 9 })) (Ok (record { contacts = 1; largest = 7 })) ≡ Err ShortTable
unfolding searched_by
no_number = refl

-- the list of contact 7, A on 40m in CW at noon of 1 March 2026, confirmed by LoTW
abbrev seven : List ℕ
seven =
    1 ∷ 0 ∷ 0 ∷ 0 ∷ 1 ∷ 0 ∷ 32 ∷ 0 ∷ 0 ∷ 0 ∷ 0 ∷ 0 ∷ 0 ∷ 0 ∷ 7 ∷ 1 ∷ (1 ∷ ascii "A") ++ (8 ∷ ascii "20260301") ++ (4 ∷ ascii "1200") ++ (3 ∷ ascii "40m") ++ (2 ∷ ascii "CW")

-- looked up in itself, one record and one number being lent: the index is kept
kept : index_left seven seven 1 1 ≡ index_of seven 1
unfolding index_left index_by indexed_by indexed_as searched_by searched_as listed_as entries_from good_at fits contact_at count_of id_at services_at call_at date_at time_at band_at mode_at end_at after text_at number_at plain is_date is_time sound_head sound_texts sound lead char_len long_char second3 second4 valid_up_to utf8
kept = refl

-- no bytes are no list: where they stand for either, the index is zero; and so it is where no number is lent
list_refused : index_left [] seven 1 1 ≡ no_row ∷ []
unfolding index_left index_by indexed_by indexed_as searched_by searched_as listed_as
list_refused = refl

other_refused : index_left seven [] 1 1 ≡ no_row ∷ []
unfolding index_left index_by indexed_by indexed_as searched_by searched_as listed_as entries_from good_at fits contact_at count_of id_at services_at call_at date_at time_at band_at mode_at end_at after text_at number_at plain is_date is_time sound_head sound_texts sound lead char_len long_char second3 second4 valid_up_to utf8
other_refused = refl

number_missing : index_left seven seven 1 0 ≡ no_row ∷ []
unfolding index_left index_by indexed_by indexed_as searched_by searched_as listed_as entries_from good_at fits contact_at count_of id_at services_at call_at date_at time_at band_at mode_at end_at after text_at number_at plain is_date is_time sound_head sound_texts sound lead char_len long_char second3 second4 valid_up_to utf8
number_missing = refl
