-- The parts of an entry in the order in which they are put.
use Rattle.refusals.specs.declared.Refusal.{Refusal}
use Rattle.std.specs.Prelude.{◌≡◌, List, [], ◌∷◌, ◌++◌, ℕ, ◌+◌, ◌<◌, length, Result}
use Rattle.contacts.specs.Contacts.{Contact, bytes_of, counted, entry_text}
use Rattle.listwriter.specs.Append.{placed_as, entered_as, append_by}

abbrev pub pair_text : List ℕ → List ℕ → List ℕ
pair_text a b = counted a ++ counted b

unfoldable pub texts_text : List ℕ → List ℕ → List ℕ → List ℕ → List ℕ → List ℕ
texts_text call date time band mode = counted call ++ (pair_text date time ++ pair_text band mode)

abbrev pub head_text : ℕ → ℕ → ℕ → List ℕ
head_text size id services = bytes_of 2 size ++ (bytes_of 8 id ++ (services ∷ []))

-- how many bytes an entry has behind its size
abbrev pub body_size : List ℕ → List ℕ → List ℕ → List ℕ → List ℕ → ℕ
body_size call date time band mode = 14 + length call + length date + length time + length band + length mode

-- a length byte counts each
pub record Counted (call date time band mode : List ℕ) : Type 0 where
  pub the_call : length call < 256
  pub the_date : length date < 256
  pub the_time : length time < 256
  pub the_band : length band < 256
  pub the_mode : length mode < 256

-- the entry stands behind `used` bytes, or there is no room
unfoldable pub Behind : List ℕ → List ℕ → ℕ → ℕ → Contact → Result ℕ Refusal → Type 0
Behind was now used count c r = (r ≡ placed_as (used + length (entry_text c)) (length was)) × (now ≡ append_by r used count c was)

-- the same of a contact that is tested first
unfoldable pub Entered : List ℕ → List ℕ → ℕ → ℕ → ℕ → Contact → Result ℕ Refusal → Type 0
Entered was now used count top c r = (r ≡ entered_as used top c (length was)) × (now ≡ append_by r used count c was)
