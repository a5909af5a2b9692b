-- The index of a list: a record for each contact, with the chains of the contacts whose codes leave one remainder. Nobody above has to
-- know how it looks inside: it is `index_of`, and `search` finds in it.
use Rattle.refusals.specs.declared.Refusal.{Refusal}
use Rattle.contacts.specs.declared.Mark.{Mark}
use Rattle.std.specs.Prelude.{ℕ, zero, suc, ◌-◌, ◌%◌, ◌≤◌, ◌≡◌, List, [], ◌∷◌, ◌++◌, length, get_or, set, replicate, ltb, Result, Ok, Err}
use Rattle.text.specs.Pick.{pick}
use Rattle.chain.specs.Chain.{col}
use Rattle.refusals.specs.declared.Refusal.TheVariants.{ShortTable}
use Rattle.contacts.specs.Lists.{entries_from, count_of, listed_as, end_at}
use Rattle.index.specs.Rows.{Row, row_at, rows_from, no_row}

-- a record with another head, with another next
abbrev pub with_head : Row → ℕ → Row
with_head r v =
    v ∷ get_or r 1 0 ∷ get_or r 2 0 ∷ get_or r 3 0 ∷ get_or r 4 0 ∷ get_or r 5 0 ∷ get_or r 6 0 ∷ get_or r 7 0 ∷ get_or r 8 0 ∷ get_or r 9 0 ∷ get_or r 10 0 ∷ get_or r 11 0 ∷ get_or r 12 0 ∷ get_or r 13 0 ∷ []

abbrev pub with_next : Row → ℕ → Row
with_next r v =
    get_or r 0 0 ∷ v ∷ get_or r 2 0 ∷ get_or r 3 0 ∷ get_or r 4 0 ∷ get_or r 5 0 ∷ get_or r 6 0 ∷ get_or r 7 0 ∷ get_or r 8 0 ∷ get_or r 9 0 ∷ get_or r 10 0 ∷ get_or r 11 0 ∷ get_or r 12 0 ∷ get_or r 13 0 ∷ []

-- the numbers that no chain touches
abbrev pub free_of : Row → Row
free_of r =
    get_or r 2 0 ∷ get_or r 3 0 ∷ get_or r 4 0 ∷ get_or r 5 0 ∷ get_or r 6 0 ∷ get_or r 7 0 ∷ get_or r 8 0 ∷ get_or r 9 0 ∷ get_or r 10 0 ∷ get_or r 11 0 ∷ get_or r 12 0 ∷ get_or r 13 0 ∷ []

-- contact i goes to the front of chain b
abbrev pub headed : List Row → ℕ → ℕ → List Row
headed rows b v = set rows b (with_head (get_or rows b []) v)

abbrev pub nexted : List Row → ℕ → ℕ → List Row
nexted rows i v = set rows i (with_next (get_or rows i []) v)

unfoldable pub pushed : List Row → ℕ → ℕ → List Row
pushed rows b i = headed (nexted rows i (col rows b 0)) b (suc i)

-- the chain of contact i of n
abbrev pub bucket_of : List Row → ℕ → ℕ → ℕ
bucket_of rows n i = col rows i 2 % n

-- the records of n contacts, the first k of them in their chains
unfoldable pub chained : ℕ → ℕ → List Row → List Row
chained n zero rows = rows
chained n (suc k) rows = pushed (chained n k rows) (bucket_of rows n k) k

-- the record of index k of n contacts, the next of which stands at a place; and where the one after it stands
unfoldable pub record_at : List ℕ → ℕ → ℕ → ℕ → Row
record_at s at k n = pick (ltb k n) (row_at s at) no_row

unfoldable pub place_after : List ℕ → ℕ → ℕ → ℕ → ℕ
place_after s at k n = pick (ltb k n) (end_at s at) at

-- m lent records: those of the contacts, and zero behind them; then the chains
unfoldable pub bare_of : List ℕ → ℕ → List Row
bare_of s m = rows_from s (count_of s) 5 ++ replicate (m - count_of s) no_row

unfoldable pub index_of : List ℕ → ℕ → List Row
index_of s m = chained (count_of s) (count_of s) (bare_of s m)

-- ---- what building the index of a list in m lent records answers: the mark; the list's refusal; 19 where there are fewer records than
-- contacts
unfoldable pub indexed_by : ℕ → Result Mark Refusal → Result Mark Refusal
indexed_by m (Ok m') = pick (ltb m m'.contacts) (Err ShortTable) (Ok m')
indexed_by m (Err why) = Err why

unfoldable pub indexed_as : List ℕ → ℕ → Result Mark Refusal
indexed_as s m = indexed_by m (listed_as s)

-- and what it leaves in them: zero throughout after a refusal
unfoldable pub index_by : Result Mark Refusal → List ℕ → ℕ → List Row
index_by (Ok m') s m = index_of s m
index_by (Err why) s m = replicate m no_row

unfoldable pub index_after : List ℕ → ℕ → List Row
index_after s m = index_by (indexed_as s m) s m

-- ---- the entries are good: k of n are left, from `at` on
unfoldable pub Checked : List ℕ → ℕ → ℕ → ℕ → Type 0
Checked s n k at = (last : ℕ) × (top : ℕ) × (entries_from s n k at last ≡ Ok (record { contacts = n; largest = top }))

-- a list with n contacts, as it was accepted
pub record Sound (s : List ℕ) (n : ℕ) : Type 0 where
  pub short : length s ≤ 16777216
  pub whole : 5 ≤ length s
  pub checked : Checked s n n 5

-- how many contacts a list has, none where it is refused
unfoldable pub count_in : Result Mark Refusal → ℕ
count_in (Ok m) = m.contacts
count_in (Err why) = 0
