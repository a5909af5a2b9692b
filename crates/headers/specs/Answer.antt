-- The answers: 11 for a text that is not UTF-8, 1 for an output that is too long, 13 for one that does not fit.
use Rattle.refusals.specs.declared.Refusal.{Refusal}
use Rattle.std.specs.Prelude.{◌≡◌, refl, Bool, true, false, ◌⊎◌, List, [], ◌∷◌, ℕ, ◌+◌, ◌<◌, length, leb, Result, Ok, Err}
use Rattle.text.specs.Pick.{pick, both}
use Rattle.text.specs.Utf8.{utf8}
use Rattle.refusals.specs.Written.{fitted}
use Rattle.refusals.specs.declared.Refusal.TheVariants.{TooLong, BadRow, ShortOutput}
use Rattle.headers.specs.Headers.{export_header}

-- the text w, made of texts that are UTF-8 or not, for an output of `room` bytes
unfoldable pub answer_of : Bool → List ℕ → ℕ → Result ℕ Refusal
answer_of good w room = pick good (fitted (Ok (length w)) room) (Err BadRow)

-- all are UTF-8
unfoldable pub all_utf8 : List ℕ → List ℕ → List ℕ → Bool
all_utf8 a b c = both (utf8 a) (both (utf8 b) (utf8 c))

-- a size, or 16,777,217 where it is above 16,777,216; and with the size of w added
unfoldable pub capped : ℕ → ℕ
capped n = pick (leb n 16777216) n 16777217

unfoldable pub capped_after : ℕ → List ℕ → ℕ
capped_after size w = capped (size + length w)

-- one of the texts is above 16,777,216 bytes
abbrev pub Long : List (List ℕ) → Type 0
Long [] = ⊥
Long (s ∷ more) = (16777216 < length s) ⊎ Long more

-- an export's header holds its texts as they are, so one above the limit makes it too long: 1, whatever the room
unfoldable pub LongRefused : Type 0
LongRefused =
    (version program created : List ℕ) (room : ℕ) → all_utf8 version program created ≡ true → Long (version ∷ program ∷ created ∷ [])
    → answer_of (all_utf8 version program created) (export_header version program created) room ≡ Err TooLong

-- one byte for no room, and a bad text before that
no_room : answer_of true (65 ∷ []) 0 ≡ Err ShortOutput
unfolding answer_of fitted
no_room = refl

bad_text : answer_of false (65 ∷ []) 0 ≡ Err BadRow
unfolding answer_of
bad_text = refl
