-- The index of a list is ready to be searched: its records are those of the contacts, in chains. Assumes nothing.
use mathlib.Core.Path.{◌≡◌, refl, ap, ◌∙◌}
use mathlib.Core.List.{List, [], ◌++◌}
use Prim.Native.Nat.{ℕ, zero, suc, ◌-◌, ◌≤◌, ◌<◌}
use native.Mathlib.Nat.{le_of_suc-le-suc, not-suc-le-zero}
use native.Mathlib.Omega.{arith}
use lib.ListN.{length, get_or, replicate, length-append, length-replicate, get_or-append}
use Rattle.chain.specs.Chain.{Linked}
use Rattle.contacts.specs.Contacts.{Contact}
use Rattle.contacts.specs.Lists.{contact_at, contacts_from, count_of, end_at}
use Rattle.contacts.proofs.ListLaws.{accepted}
use Rattle.index.specs.Rows.{Row, row_of, row_by, row_at, rows_from, no_row}
use Rattle.indexing.specs.Index.{free_of, bucket_of, chained, bare_of, index_of}
use Rattle.indexing.proofs.ChainLaws.{hd_of, nx_of, chained_length, chained_free, all_linked}
use Rattle.indexing.proofs.BuildLaws.{length_rows, indexed_listed, indexed_fits, indexed_is}
use Rattle.search.specs.Search.{place_from, Indexed}

pub row_there : (s : List ℕ) (k at i : ℕ) → i < k → get_or (rows_from s k at) i [] ≡ row_at s (place_from s i at)
unfolding rows_from
row_there s zero at i h = absurd (not-suc-le-zero h)
row_there s (suc k) at zero h = refl
row_there s (suc k) at (suc i) h = row_there s k (end_at s at) i (le_of_suc-le-suc h)

pub contact_there : (s : List ℕ) (k at i : ℕ) (d : Contact) → i < k → get_or (contacts_from s k at) i d ≡ contact_at s (place_from s i at)
unfolding contacts_from
contact_there s zero at i d h = absurd (not-suc-le-zero h)
contact_there s (suc k) at zero d h = refl
contact_there s (suc k) at (suc i) d h = contact_there s k (end_at s at) i d (le_of_suc-le-suc h)

pub contacts_length : (s : List ℕ) (k at : ℕ) → length (contacts_from s k at) ≡ k
unfolding contacts_from
contacts_length s zero at = refl
contacts_length s (suc k) at = ap suc (contacts_length s k (end_at s at))

pub record Ready (s : List ℕ) (n : ℕ) (rows : List Row) : Type 0 where
  pub room : n ≤ length rows
  pub count : n ≡ count_of s
  pub links : Linked (bucket_of rows n) n n (hd_of rows) (nx_of rows)
  pub free : (i : ℕ) → i < n → free_of (get_or rows i []) ≡ free_of (row_at s (place_from s i 5))

module _ (s : List ℕ) (m n : ℕ) (h : n ≤ m) (c : n ≡ count_of s) where
  bare : List Row
  bare = rows_from s n 5 ++ replicate (m - n) no_row

  bare_length : length bare ≡ m
  unfolding bare
  bare_length =
      length-append (rows_from s n 5) (replicate (m - n) no_row) ∙ omega (arith, length_rows s n 5, length-replicate (m - n) no_row)

  bare_there : (i : ℕ) → i < n → get_or bare i [] ≡ row_at s (place_from s i 5)
  unfolding bare
  bare_there i l =
      let g : i < length (rows_from s n 5) = omega (arith, length_rows s n 5) in
      get_or-append (rows_from s n 5) (replicate (m - n) no_row) [] i g ∙ row_there s n 5 i l

  pub index_ready : (rows : List Row) → rows ≡ index_of s m → Ready s n rows
  unfolding index_of bare_of bare row_at row_by row_of
  index_ready rows e =
      let q : rows ≡ chained n n bare = e ∙ rw c refl in
      let l : n ≤ length bare = omega (arith, bare_length) in
      rw q
      record {
        room = omega (arith, chained_length n bare l n (omega arith));
        count = c;
        links = all_linked n bare l (λ b k. ap (λ (r : Row). get_or r 0 0) (bare_there b k));
        free = λ i k. chained_free n bare l n i (omega arith) ∙ ap free_of (bare_there i k);
      }

-- ---- from what building answers
pub ready : (s : List ℕ) (n : ℕ) (rows : List Row) → Indexed s n rows → Ready s n rows
unfolding Indexed
ready s n rows q =
    index_ready s (length rows) n (indexed_fits s (length rows) n q.0 q.1) (accepted s n q.0 (indexed_listed s (length rows) n q.0 q.1)).count rows (indexed_is s (length rows) n q.0 q.1 rows q.2)
