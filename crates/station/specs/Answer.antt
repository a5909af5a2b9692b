-- The answer of a station's fields: 11 for a text that is not UTF-8; 1 for a text above 16,777,216 bytes, also where it is blank and no
-- field comes of it; 1 for an output that is too long; 13 for one that does not fit.
use Rattle.refusals.specs.declared.Refusal.{Refusal}
use Rattle.std.specs.Prelude.{◌≡◌, refl, Bool, true, false, List, [], ◌∷◌, ℕ, ◌<◌, length, replicate, leb, Result, Ok, Err}
use Rattle.text.specs.Pick.{pick, both}
use Rattle.refusals.specs.Written.{fitted}
use Rattle.refusals.specs.declared.Refusal.TheVariants.{TooLong, BadRow, ShortOutput}
use Rattle.headers.specs.Answer.{Long}
use Rattle.station.specs.Station.{station_text, all7}

-- so many bytes are within the limit
abbrev pub allowed : ℕ → Bool
allowed n = leb n 16777216

unfoldable pub short : List ℕ → Bool
short s = allowed (length s)

-- all are within it: three texts, and all of a station's
unfoldable pub all_short : List ℕ → List ℕ → List ℕ → Bool
all_short a b c = both (short a) (both (short b) (short c))

unfoldable pub short7 : List ℕ → List ℕ → List ℕ → List ℕ → List ℕ → List ℕ → List ℕ → Bool
short7 a b c d e f g = both (all_short a b c) (both (all_short d e f) (short g))

-- the text w, made of texts that are UTF-8 or not, within the limit or not, for an output of `room` bytes
unfoldable pub station_by : Bool → Bool → List ℕ → ℕ → Result ℕ Refusal
station_by good within w room = pick good (pick within (fitted (Ok (length w)) room) (Err TooLong)) (Err BadRow)

unfoldable pub station_answer : List ℕ → List ℕ → List ℕ → List ℕ → List ℕ → List ℕ → List ℕ → ℕ → Result ℕ Refusal
station_answer call grid name state county cq itu room =
    station_by (all7 call grid name state county cq itu) (short7 call grid name state county cq itu) (station_text call grid name state county cq itu) room

-- ---- the same, said from the texts
-- a text that is not UTF-8 is refused with 11, also where one is above the limit
unfoldable pub BadRefused : Type 0
BadRefused =
    (call grid name state county cq itu : List ℕ) (room : ℕ) → all7 call grid name state county cq itu ≡ false
    → station_answer call grid name state county cq itu room ≡ Err BadRow

-- of UTF-8 texts one above the limit is refused with 1, whatever the others are and however much room there is
unfoldable pub LongRefused : Type 0
LongRefused =
    (call grid name state county cq itu : List ℕ) (room : ℕ) → all7 call grid name state county cq itu ≡ true
    → Long (call ∷ grid ∷ name ∷ state ∷ county ∷ cq ∷ itu ∷ []) → station_answer call grid name state county cq itu room ≡ Err TooLong

-- and of UTF-8 texts within it what is written decides
unfoldable pub ShortMeasured : Type 0
ShortMeasured =
    (call grid name state county cq itu : List ℕ) (room : ℕ) → all7 call grid name state county cq itu ≡ true
    → (Long (call ∷ grid ∷ name ∷ state ∷ county ∷ cq ∷ itu ∷ []) → ⊥)
    → station_answer call grid name state county cq itu room ≡ fitted (Ok (length (station_text call grid name state county cq itu))) room

-- n blanks as grid, more than the limit, are refused with 1 beside UTF-8 texts, though no byte of them would be written
unfoldable pub BlankRefused : Type 0
BlankRefused =
    (call name state county cq itu : List ℕ) (n room : ℕ) → all7 call [] name state county cq itu ≡ true → 16777216 < n
    → station_answer call (replicate n 32) name state county cq itu room ≡ Err TooLong

-- ---- worked examples
longest : allowed 16777216 ≡ true
longest = refl

one_more : allowed 16777217 ≡ false
one_more = refl

-- bad and long: 11 comes before 1
bad_and_long : station_by false false [] 0 ≡ Err BadRow
unfolding station_by
bad_and_long = refl

-- long, though what is written has no byte
long_for_nothing : station_by true false [] 0 ≡ Err TooLong
unfolding station_by
long_for_nothing = refl

-- one byte for no room, and for one
no_room : station_by true true (65 ∷ []) 0 ≡ Err ShortOutput
unfolding station_by fitted
no_room = refl

just_room : station_by true true (65 ∷ []) 1 ≡ Ok 1
unfolding station_by fitted
just_room = refl
