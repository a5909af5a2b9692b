-- A look-up in a table: the number of the first entry that a test picks.
use Rattle.std.specs.Prelude.{◌≡◌, ℕ, zero, suc, ◌+◌, ◌*◌, ◌≤◌, ◌<◌, Bool, true, false, List, [], ◌∷◌, length, get_or, take, ltb, Some, None, Option}
use Rattle.text.specs.Pick.{pick}
use Rattle.letters.specs.Capitals.{raised}
use Rattle.letters.specs.Same.{same_raised}

-- the first entry that the test picks, where the entries are counted from k
abbrev pub first_from : {A : Type 0} → (A → Bool) → ℕ → List A → Option ℕ
first_from test k [] = None
first_from test k (x ∷ xs) = pick (test x) (Some k) (first_from test (suc k) xs)

-- the first entry whose name is the text but for the case of letters
unfoldable pub named : List ℕ → List (List ℕ) → Option ℕ
named text names = first_from (same_raised text) 0 names

-- the entry k of a table, if it has one
abbrev pub entry : {A : Type 0} → List A → ℕ → Option A
entry [] k = None
entry (x ∷ xs) zero = Some x
entry (x ∷ xs) (suc k) = entry xs k

-- a column of names in a fixed width, and beside it the column of their lengths
unfoldable pub cut : List (List ℕ) → List ℕ → List (List ℕ)
cut [] lens = []
cut (n ∷ ns) [] = []
cut (n ∷ ns) (l ∷ ls) = take l n ∷ cut ns ls

-- what a search of such columns asks: as many names as lengths, no more than a byte counts, none longer than the width
pub record Columns (names : List (List ℕ)) (lens : List ℕ) : Type 0 where
  pub alike : length names ≡ length lens
  pub few : length names ≤ 255
  pub short : (k : ℕ) → get_or lens k 0 ≤ 12

abbrev pub is_found : Option ℕ → Bool
is_found (Some k) = true
is_found None = false

-- ---- a short text as a number: its bytes in capitals are the digits in base 256, after a leading 1
abbrev pub digits : ℕ → List ℕ → ℕ
digits k [] = k
digits k (x ∷ xs) = digits (k * 256 + raised x) xs

-- 0 for a text of more than seven bytes
unfoldable pub key_of : List ℕ → ℕ
key_of xs = pick (ltb 7 (length xs)) 0 (digits 1 xs)

-- every element is a byte
unfoldable pub Bytes : List ℕ → Type 0
Bytes xs = (k : ℕ) → get_or xs k 0 < 256

-- k is the key of the text, whose elements are bytes
unfoldable pub Keyed : List ℕ → ℕ → Type 0
Keyed xs k = (k ≡ key_of xs) × Bytes xs
