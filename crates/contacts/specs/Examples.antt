-- Worked examples.
use Rattle.std.specs.Prelude.{◌≡◌, refl, List, [], ◌∷◌, ◌++◌, ℕ, Ok, Err}
use Rattle.text.specs.Ascii.{ascii}
use Rattle.text.specs.Walk.{lead}
use Rattle.text.specs.Utf8.{char_len, long_char, second3, second4, valid_up_to, utf8}
use Rattle.refusals.specs.declared.Refusal.TheVariants.{OtherVersion, MalformedList, IdsNotRising}
use Rattle.contacts.specs.Contacts.{Contact, contact, plain, is_date, is_time, sound_head, sound_texts, sound, bytes_of, body_text, entry_text, entries_text, list_text, largest}
use Rattle.contacts.specs.Lists.{number_at, text_at, after, call_at, date_at, time_at, band_at, mode_at, end_at, id_at, services_at, contact_at, fits, good_at, entries_from, count_of, listed_as, contacts_from, contacts_of, fresh_by, fresh_against}
use Rattle.contacts.specs.declared.Freshness.TheVariants.{Fresh, Stale}

-- contact 7, confirmed by LoTW
abbrev seven : Contact
seven = contact 7 1 (ascii "A") (ascii "20260301") (ascii "1200") (ascii "40m") (ascii "CW")

-- its entry from the id on, with this id and these services
abbrev entry : ℕ → ℕ → List ℕ
entry id services =
    0 ∷ 32 ∷ 0 ∷ 0 ∷ 0 ∷ 0 ∷ 0 ∷ 0 ∷ 0 ∷ id ∷ services ∷ (1 ∷ ascii "A") ++ (8 ∷ ascii "20260301") ++ (4 ∷ ascii "1200") ++ (3 ∷ ascii "40m") ++ (2 ∷ ascii "CW")

abbrev list : ℕ → List ℕ → List ℕ
list count entries = 1 ∷ 0 ∷ 0 ∷ 0 ∷ count ∷ entries

-- the list of it, as bytes
written : list_text (seven ∷ []) ≡ list 1 (entry 7 1)
unfolding list_text entries_text entry_text body_text bytes_of
written = refl

-- says it, and has this mark
said : contacts_of (list 1 (entry 7 1)) ≡ seven ∷ []
unfolding contacts_of contacts_from contact_at count_of id_at services_at call_at date_at time_at band_at mode_at end_at after text_at number_at
said = refl

marked : listed_as (list 1 (entry 7 1)) ≡ Ok (record { contacts = 1; largest = 7 })
unfolding listed_as entries_from good_at fits contact_at count_of id_at services_at call_at date_at time_at band_at mode_at end_at after text_at number_at plain is_date is_time sound_head sound_texts sound lead char_len long_char second3 second4 valid_up_to utf8
marked = refl

empty_list : listed_as (list 0 []) ≡ Ok (record { contacts = 0; largest = 0 })
unfolding listed_as entries_from count_of number_at
empty_list = refl

-- nothing at all; another version; no whole count
nothing : listed_as [] ≡ Err MalformedList
unfolding listed_as
nothing = refl

version_two : listed_as (2 ∷ []) ≡ Err OtherVersion
unfolding listed_as
version_two = refl

half_a_count : listed_as (1 ∷ 0 ∷ []) ≡ Err MalformedList
unfolding listed_as
half_a_count = refl

-- one contact more than there is, and one less
one_more : listed_as (list 2 (entry 7 1)) ≡ Err MalformedList
unfolding listed_as entries_from good_at fits contact_at count_of id_at services_at call_at date_at time_at band_at mode_at end_at after text_at number_at plain is_date is_time sound_head sound_texts sound lead char_len long_char second3 second4 valid_up_to utf8
one_more = refl

one_less : listed_as (list 0 (entry 7 1)) ≡ Err MalformedList
unfolding listed_as entries_from count_of number_at
one_less = refl

-- id 0; the service 16; the same id twice; a lower id that comes second
no_id : listed_as (list 1 (entry 0 1)) ≡ Err MalformedList
unfolding listed_as entries_from good_at fits contact_at count_of id_at services_at call_at date_at time_at band_at mode_at end_at after text_at number_at sound_head sound
no_id = refl

unknown_service : listed_as (list 1 (entry 7 16)) ≡ Err MalformedList
unfolding listed_as entries_from good_at fits contact_at count_of id_at services_at call_at date_at time_at band_at mode_at end_at after text_at number_at sound_head sound
unknown_service = refl

id_twice : listed_as (list 2 (entry 7 1 ++ entry 7 1)) ≡ Err IdsNotRising
unfolding listed_as entries_from good_at fits contact_at count_of id_at services_at call_at date_at time_at band_at mode_at end_at after text_at number_at plain is_date is_time sound_head sound_texts sound lead char_len long_char second3 second4 valid_up_to utf8
id_twice = refl

-- where an entry is malformed and its id does not rise, it is 17
malformed_first : listed_as (list 2 (entry 7 1 ++ entry 7 16)) ≡ Err MalformedList
unfolding listed_as entries_from good_at fits contact_at count_of id_at services_at call_at date_at time_at band_at mode_at end_at after text_at number_at plain is_date is_time sound_head sound_texts sound lead char_len long_char second3 second4 valid_up_to utf8
malformed_first = refl

-- a plan made with mark (1, 7) is fresh against that list, and not against the empty one
fresh : fresh_against 1 7 (list 1 (entry 7 1)) ≡ Ok Fresh
unfolding fresh_against fresh_by listed_as entries_from good_at fits contact_at count_of id_at services_at call_at date_at time_at band_at mode_at end_at after text_at number_at plain is_date is_time sound_head sound_texts sound lead char_len long_char second3 second4 valid_up_to utf8
fresh = refl

stale : fresh_against 1 7 (list 0 []) ≡ Ok Stale
unfolding fresh_against fresh_by listed_as entries_from count_of number_at
stale = refl

largest_id : largest (contact 7 0 [] [] [] [] [] ∷ contact 9 0 [] [] [] [] [] ∷ []) ≡ 9
unfolding largest
largest_id = refl
