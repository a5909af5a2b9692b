-- A contact of the log, and the contact list as bytes: what stands in the place of rigflow's database.
-- The list is the version byte 1, a count of 4 bytes, and the entries of the contacts in the order of their ids. All numbers are
-- big-endian.
use Rattle.std.specs.Prelude.{Bool, true, List, [], ◌∷◌, ◌++◌, ℕ, zero, suc, ◌/◌, ◌%◌, length, eqb, leb, ltb}
use Rattle.text.specs.Pick.{pick, both, either, within}
use Rattle.text.specs.Utf8.{utf8}
use Rattle.decimal.specs.Decimal.{all_digits}

-- id, confirmed services, call, date, time, band, mode
pub data Contact : Type 0 where
  contact : ℕ → ℕ → List ℕ → List ℕ → List ℕ → List ℕ → List ℕ → Contact

abbrev pub id_of : Contact → ℕ
id_of (contact id services call date time band mode) = id

abbrev pub services_of : Contact → ℕ
services_of (contact id services call date time band mode) = services

abbrev pub call_of : Contact → List ℕ
call_of (contact id services call date time band mode) = call

abbrev pub date_of : Contact → List ℕ
date_of (contact id services call date time band mode) = date

abbrev pub time_of : Contact → List ℕ
time_of (contact id services call date time band mode) = time

abbrev pub band_of : Contact → List ℕ
band_of (contact id services call date time band mode) = band

abbrev pub mode_of : Contact → List ℕ
mode_of (contact id services call date time band mode) = mode

-- UTF-8 that a length byte can count
unfoldable pub plain : List ℕ → Bool
plain t = both (leb (length t) 255) (utf8 t)

-- 8 digits; 4 or 6 digits. Digits are UTF-8
unfoldable pub is_date : List ℕ → Bool
is_date d = both (eqb (length d) 8) (all_digits d)

unfoldable pub is_time : List ℕ → Bool
is_time t = both (either (eqb (length t) 4) (eqb (length t) 6)) (all_digits t)

-- an id from 1 to 2^63 - 1; no bit but 1 lotw, 2 eqsl, 4 qrz, 8 qsl
unfoldable pub sound_head : ℕ → ℕ → Bool
sound_head id services = both (within id 1 9223372036854775807) (leb services 15)

unfoldable pub sound_texts : List ℕ → List ℕ → List ℕ → List ℕ → List ℕ → Bool
sound_texts call date time band mode = both (plain call) (both (is_date date) (both (is_time time) (both (plain band) (plain mode))))

-- a contact that a list can hold
unfoldable pub sound : Contact → Bool
sound (contact id services call date time band mode) = both (sound_head id services) (sound_texts call date time band mode)

-- all are, and their ids rise strictly, from above `last` on
unfoldable pub sound_from : ℕ → List Contact → Bool
sound_from last [] = true
sound_from last (c ∷ cs) = both (sound c) (both (ltb last (id_of c)) (sound_from (id_of c) cs))

-- ---- as bytes
-- n in k bytes
unfoldable pub bytes_of : ℕ → ℕ → List ℕ
bytes_of zero n = []
bytes_of (suc k) n = bytes_of k (n / 256) ++ (n % 256 ∷ [])

-- a text with its length byte
abbrev pub counted : List ℕ → List ℕ
counted t = length t ∷ t

unfoldable pub body_text : Contact → List ℕ
body_text (contact id services call date time band mode) =
    bytes_of 8 id ++ (services ∷ (counted call ++ (counted date ++ (counted time ++ (counted band ++ counted mode)))))

-- an entry: how many bytes follow, and these
unfoldable pub entry_text : Contact → List ℕ
entry_text c = bytes_of 2 (length (body_text c)) ++ body_text c

unfoldable pub entries_text : List Contact → List ℕ
entries_text [] = []
entries_text (c ∷ cs) = entry_text c ++ entries_text cs

unfoldable pub list_text : List Contact → List ℕ
list_text cs = 1 ∷ (bytes_of 4 (length cs) ++ entries_text cs)

-- ---- the mark: how many contacts, and the largest id, 0 where there is none
abbrev pub larger : ℕ → ℕ → ℕ
larger a b = pick (leb a b) b a

unfoldable pub largest : List Contact → ℕ
largest [] = 0
largest (c ∷ cs) = larger (id_of c) (largest cs)
