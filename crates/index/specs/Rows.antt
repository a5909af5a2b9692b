-- The record that the index keeps of a contact, as plain numbers:
-- 0 the last contact of the chain of this number, 1 the contact before this one in its own chain (both by number and one, 0 for none),
-- 2 the code of its call, mode and band, 3 and 4 the id, 5 the services, 6 to 10 the places of the length bytes of call, date, time,
-- band and mode in the list, 11 whether it has a moment, 12 and 13 the seconds of that. A number of 64 bits has its low half first.
use Rattle.std.specs.Prelude.{ℕ, zero, suc, ◌+◌, ◌*◌, ◌/◌, ◌%◌, ◌≡◌, refl, List, [], ◌∷◌, replicate, Option, Some, None}
use Rattle.letters.specs.Capitals.{raised, capitals}
use Rattle.times.specs.Moments.{moment_of}
use Rattle.contacts.specs.Lists.{text_at, call_at, date_at, time_at, band_at, mode_at, end_at, id_at, services_at}

abbrev pub Row : Type 0
Row = List ℕ

unfoldable pub low : ℕ → ℕ
low n = n % 4294967296

unfoldable pub high : ℕ → ℕ
high n = n / 4294967296

abbrev pub joined : ℕ → ℕ → ℕ
joined l h = l + h * 4294967296

-- a moment as two numbers: whether there is one, and its seconds
unfoldable pub has_moment : Option ℕ → ℕ
has_moment (Some seconds) = 1
has_moment None = 0

unfoldable pub seconds_in : Option ℕ → ℕ
seconds_in (Some seconds) = seconds
seconds_in None = 0

unfoldable pub moment_from : ℕ → ℕ → Option ℕ
moment_from zero seconds = None
moment_from (suc _) seconds = Some seconds

-- a number that contacts of one key share: bytes mixed into it one by one, in capitals
unfoldable pub mix : ℕ → ℕ → ℕ
mix h b = (h * 2654435761 + b) % 4294967296

abbrev pub mixed : ℕ → List ℕ → ℕ
mixed h [] = h
mixed h (b ∷ bs) = mixed (mix h b) bs

unfoldable pub code_of : List ℕ → List ℕ → List ℕ → ℕ
code_of call mode band = mixed (mixed (mixed 0 (capitals call)) (capitals mode)) (capitals band)

-- the record with these parts
unfoldable pub row_of : ℕ → ℕ → ℕ → ℕ → ℕ → ℕ → ℕ → ℕ → Option ℕ → Row
row_of code id services call date time band mode moment =
    0 ∷ 0 ∷ code ∷ low id ∷ high id ∷ services ∷ call ∷ date ∷ time ∷ band ∷ mode ∷ has_moment moment ∷ low (seconds_in moment) ∷ high (seconds_in moment) ∷ []

-- the record of a contact with these services and texts, in no chain yet
unfoldable pub row_by : List ℕ → ℕ → ℕ → ℕ → ℕ → ℕ → ℕ → ℕ → Row
row_by s id services call date time band mode =
    row_of (code_of (text_at s call) (text_at s mode) (text_at s band)) id services call date time band mode (moment_of (text_at s date) (text_at s time))

-- of the contact at a place of the list
unfoldable pub row_at : List ℕ → ℕ → Row
row_at s at = row_by s (id_at s at) (services_at s at) (call_at at) (date_at s at) (time_at s at) (band_at s at) (mode_at s at)

-- k of them, from a place on
unfoldable pub rows_from : List ℕ → ℕ → ℕ → List Row
rows_from s zero at = []
rows_from s (suc k) at = row_at s at ∷ rows_from s k (end_at s at)

abbrev pub no_row : Row
no_row = replicate 14 0

-- the code of the call "aB" with no mode and band
code : code_of (97 ∷ 66 ∷ []) [] [] ≡ 739632691
unfolding code_of mix raised
code = refl
