-- A list begun, and a contact put behind the others. Who writes keeps the list's length and its mark.
use Rattle.refusals.specs.declared.Refusal.{Refusal}
use Rattle.std.specs.Prelude.{Bool, List, [], ℕ, ◌+◌, length, get_or, take, eqb, leb, ltb, ⊤, Result, Ok, Err}
use Rattle.std.proofs.lemmas.List.Edits.{sets}
use Rattle.text.specs.Pick.{pick, both, either}
use Rattle.refusals.specs.declared.Refusal.TheVariants.{TooLong, ShortOutput, OtherVersion, MalformedList, IdsNotRising}
use Rattle.contacts.specs.Contacts.{Contact, contact, id_of, sound, bytes_of, entry_text, list_text}
use Rattle.contacts.specs.Lists.{count_of}

-- 13 where there is no room for the five bytes of a list with no contact
unfoldable pub start_as : ℕ → Result ℕ Refusal
start_as room = pick (ltb room 5) (Err ShortOutput) (Ok 5)

unfoldable pub start_after : List ℕ → List ℕ
start_after was = pick (ltb (length was) 5) was (sets was 0 (list_text []))

-- ---- why a contact is not appended, in this order
-- 1 for a list or a text above 16,777,216 bytes
abbrev pub long : ℕ → Bool
long n = ltb 16777216 n

unfoldable pub long_texts : List ℕ → List ℕ → List ℕ → List ℕ → List ℕ → Bool
long_texts call date time band mode =
    either (long (length call)) (either (long (length date)) (either (long (length time)) (either (long (length band)) (long (length mode)))))

unfoldable pub is_long : ℕ → Contact → Bool
is_long used (contact id services call date time band mode) = either (long used) (long_texts call date time band mode)

-- the heading, as the list's own check reads it: 17 where there is no byte, 16 where the version is another one, 17 where there is no whole
-- count, or not the count told, or one that cannot grow
unfoldable pub heading_of : List ℕ → ℕ → Result ⊤ Refusal
heading_of list count =
    pick (eqb (length list) 0) (Err MalformedList)
    (pick (eqb (get_or list 0 0) 1)
    (pick (both (both (leb 5 (length list)) (eqb (count_of list) count)) (ltb count 4294967295)) (Ok tt) (Err MalformedList))
    (Err OtherVersion))

-- where there is room: 1 for the list, then 13
unfoldable pub placed_as : ℕ → ℕ → Result ℕ Refusal
placed_as end room = pick (leb end 16777216) (pick (leb end room) (Ok end) (Err ShortOutput)) (Err TooLong)

-- behind `used` bytes: 17 where the contact is not sound, 18 where its id is not above the largest
unfoldable pub entered_as : ℕ → ℕ → Contact → ℕ → Result ℕ Refusal
entered_as used top c room =
    pick (sound c)
    (pick (ltb top (id_of c)) (placed_as (used + length (entry_text c)) room) (Err IdsNotRising))
    (Err MalformedList)

unfoldable pub headed_by : Result ⊤ Refusal → Result ℕ Refusal → Result ℕ Refusal
headed_by (Ok tt) r = r
headed_by (Err why) r = Err why

-- behind the first `used` bytes of the output, which have this mark
unfoldable pub append_as : ℕ → ℕ → ℕ → Contact → List ℕ → Result ℕ Refusal
append_as used count top c was =
    pick (is_long used c) (Err TooLong) (headed_by (heading_of (take used was) count) (entered_as used top c (length was)))

-- the entry behind the others, and one contact more; nothing after a refusal
unfoldable pub append_by : Result ℕ Refusal → ℕ → ℕ → Contact → List ℕ → List ℕ
append_by (Ok n) used count c was = sets (sets was used (entry_text c)) 1 (bytes_of 4 (count + 1))
append_by (Err why) used count c was = was

unfoldable pub append_after : ℕ → ℕ → ℕ → Contact → List ℕ → List ℕ
append_after used count top c was = append_by (append_as used count top c was) used count c was
