-- Worked examples.
use Rattle.std.specs.Prelude.{◌≡◌, List, [], ◌∷◌, ℕ, length, replicate, Ok, Err}
use Rattle.std.proofs.Math.Path.{refl}
use Rattle.text.specs.Ascii.{ascii}
use Rattle.text.specs.Walk.{lead}
use Rattle.text.specs.Utf8.{char_len, long_char, second3, second4, valid_up_to, utf8}
use Rattle.refusals.specs.declared.Refusal.TheVariants.{TooLong, ShortOutput, OtherVersion, MalformedList, IdsNotRising}
use Rattle.contacts.specs.Contacts.{Contact, contact, plain, is_date, is_time, sound_head, sound_texts, sound, bytes_of, body_text, entry_text, entries_text, list_text}
use Rattle.contacts.specs.Lists.{number_at, count_of}
use Rattle.listwriter.specs.Append.{start_after, long_texts, is_long, heading_of, placed_as, entered_as, headed_by, append_as}

-- a list with no contact, in six bytes that were 9
begun : start_after (9 ∷ 9 ∷ 9 ∷ 9 ∷ 9 ∷ 9 ∷ []) ≡ 1 ∷ 0 ∷ 0 ∷ 0 ∷ 0 ∷ 9 ∷ []
unfolding start_after list_text entries_text bytes_of
begun = refl

-- contact 7, whose entry has 34 bytes, and one of the service 16, which is not sound
abbrev entry : ℕ → Contact
entry services = contact 7 services (ascii "A") (ascii "20260301") (ascii "1200") (ascii "40m") (ascii "CW")

abbrev seven : Contact
seven = entry 1

-- an output that begins with this version and this last byte of the count, and has so many bytes behind them
abbrev lent : ℕ → ℕ → ℕ → List ℕ
lent version count more = version ∷ 0 ∷ 0 ∷ 0 ∷ count ∷ replicate more 9

-- behind a list with no contact; in 38 bytes there is no room
taken : append_as 5 0 0 seven (lent 1 0 34) ≡ Ok 39
unfolding append_as is_long long_texts heading_of headed_by count_of number_at entered_as placed_as sound sound_head sound_texts plain is_date is_time lead char_len long_char second3 second4 valid_up_to utf8 entry_text body_text bytes_of
taken = refl

no_room : append_as 5 0 0 seven (lent 1 0 33) ≡ Err ShortOutput
unfolding append_as is_long long_texts heading_of headed_by count_of number_at entered_as placed_as sound sound_head sound_texts plain is_date is_time lead char_len long_char second3 second4 valid_up_to utf8 entry_text body_text bytes_of
no_room = refl

-- more bytes told than there are: a heading is there, and no room
not_so_many : append_as 6 0 0 seven (lent 1 0 0) ≡ Err ShortOutput
unfolding append_as is_long long_texts heading_of headed_by count_of number_at entered_as placed_as sound sound_head sound_texts plain is_date is_time lead char_len long_char second3 second4 valid_up_to utf8 entry_text body_text bytes_of
not_so_many = refl

-- an id that is not above the largest
not_rising : append_as 39 1 7 seven (lent 1 1 34) ≡ Err IdsNotRising
unfolding append_as is_long long_texts heading_of headed_by count_of number_at entered_as sound sound_head sound_texts plain is_date is_time lead char_len long_char second3 second4 valid_up_to utf8
not_rising = refl

-- a contact that is not sound, which comes before its id; the heading comes before it
not_sound : append_as 5 0 7 (entry 16) (lent 1 0 34) ≡ Err MalformedList
unfolding append_as is_long long_texts heading_of headed_by count_of number_at entered_as sound sound_head
not_sound = refl

heading_first : append_as 5 0 0 (entry 16) (lent 3 0 34) ≡ Err OtherVersion
unfolding append_as is_long long_texts heading_of headed_by
heading_first = refl

-- five bytes 3; no byte; one byte, which is another version; four bytes
other_version : append_as 5 50529027 0 seven (3 ∷ 3 ∷ 3 ∷ 3 ∷ 3 ∷ []) ≡ Err OtherVersion
unfolding append_as is_long long_texts heading_of headed_by
other_version = refl

nothing : append_as 0 0 0 seven (lent 1 0 34) ≡ Err MalformedList
unfolding append_as is_long long_texts heading_of headed_by
nothing = refl

version_first : append_as 1 0 0 seven (2 ∷ []) ≡ Err OtherVersion
unfolding append_as is_long long_texts heading_of headed_by
version_first = refl

half_a_count : append_as 4 0 0 seven (lent 1 0 34) ≡ Err MalformedList
unfolding append_as is_long long_texts heading_of headed_by count_of number_at
half_a_count = refl

-- a count that is not told; one that cannot grow, and the last that can
other_count : append_as 5 4294967294 0 seven (lent 1 0 34) ≡ Err MalformedList
unfolding append_as is_long long_texts heading_of headed_by count_of number_at
other_count = refl

full : append_as 5 4294967295 0 seven (1 ∷ 255 ∷ 255 ∷ 255 ∷ 255 ∷ replicate 34 9) ≡ Err MalformedList
unfolding append_as is_long long_texts heading_of headed_by count_of number_at
full = refl

nearly_full : append_as 5 4294967294 0 seven (1 ∷ 255 ∷ 255 ∷ 255 ∷ 254 ∷ replicate 34 9) ≡ Ok 39
unfolding append_as is_long long_texts heading_of headed_by count_of number_at entered_as placed_as sound sound_head sound_texts plain is_date is_time lead char_len long_char second3 second4 valid_up_to utf8 entry_text body_text bytes_of
nearly_full = refl

-- a list above 16,777,216 bytes, which comes before its heading; a list of just so many, behind which no entry stands; a text, whichever
long_list : append_as 16777217 0 0 seven [] ≡ Err TooLong
unfolding append_as is_long long_texts
long_list = refl

longest_list : append_as 16777216 0 0 seven [] ≡ Err MalformedList
unfolding append_as is_long long_texts heading_of headed_by count_of number_at
longest_list = refl

no_longer : append_as 16777216 0 0 seven (lent 1 0 34) ≡ Err TooLong
unfolding append_as is_long long_texts heading_of headed_by count_of number_at entered_as placed_as sound sound_head sound_texts plain is_date is_time lead char_len long_char second3 second4 valid_up_to utf8 entry_text body_text bytes_of
no_longer = refl

module _ (t was : List ℕ) (e : length t ≡ 16777217) where
  long_call : append_as 5 0 0 (contact 7 1 t [] [] [] []) was ≡ Err TooLong
  unfolding append_as is_long long_texts
  long_call = rw e refl

  long_date : append_as 5 0 0 (contact 7 1 [] t [] [] []) was ≡ Err TooLong
  unfolding append_as is_long long_texts
  long_date = rw e refl

  long_time : append_as 5 0 0 (contact 7 1 [] [] t [] []) was ≡ Err TooLong
  unfolding append_as is_long long_texts
  long_time = rw e refl

  long_band : append_as 5 0 0 (contact 7 1 [] [] [] t []) was ≡ Err TooLong
  unfolding append_as is_long long_texts
  long_band = rw e refl

  long_mode : append_as 5 0 0 (contact 7 1 [] [] [] [] t) was ≡ Err TooLong
  unfolding append_as is_long long_texts
  long_mode = rw e refl
