-- The index built. Assumes nothing.
use Rattle.std.specs.Prelude.{Result, Ok, Err}
use Rattle.contacts.specs.declared.Mark.{Mark}
use mathlib.Core.Path.{◌≡◌, refl, sym, ap, ◌∙◌}
use mathlib.Core.List.{List, ◌++◌, append-nil}
use Prim.Native.Nat.{ℕ, zero, suc, ◌+◌, ◌-◌, ◌≤◌, ◌<◌}
use native.Mathlib.Nat.{zero-add}
use native.Mathlib.Omega.{arith}
use lib.ListN.{length, drop, replicate, length-append, length-replicate, drop_of_length-le}
use lib.Seq.{sets, sets-eq}
use lib.Dec.{ltb}
use borrow.Author.Tests.{lt-ltb, le-ltb, ltb-false}
use Rattle.text.proofs.BoolLaws.{cases}
use Rattle.refusals.specs.declared.Refusal.{Refusal}
use Rattle.refusals.specs.declared.Refusal.TheVariants.{ShortTable}
use Rattle.contacts.specs.Lists.{count_of, listed_as, Few}
use Rattle.contacts.proofs.ListLaws.{accepted, marked_refused}
use Rattle.index.specs.Rows.{Row, rows_from, no_row}
use Rattle.indexing.specs.Index.{bare_of, index_of, chained, indexed_by, indexed_as, index_by, index_after, count_in, Checked, Sound}

pub length_rows : (s : List ℕ) (k at : ℕ) → length (rows_from s k at) ≡ k
unfolding rows_from
length_rows s zero at = refl
length_rows s (suc k) at = ap suc (length_rows s k _)

pub drop_replicate : {A : Type 0} (n m : ℕ) (x : A) → drop n (replicate m x) ≡ replicate (m - n) x
drop_replicate zero m x = let z : m - 0 ≡ m = omega arith in rw z refl
drop_replicate (suc n) zero x = let z : 0 - suc n ≡ 0 = omega arith in rw z refl
drop_replicate (suc n) (suc m) x = let z : suc m - suc n ≡ m - n = omega arith in rw z (drop_replicate n m x)

-- ---- what is answered
module _ (s : List ℕ) (m : ℕ) where
  pub listed_refused : (why : Refusal) → listed_as s ≡ Err why → Err why ≡ indexed_as s m
  unfolding indexed_as indexed_by
  listed_refused why e = rw e refl

  module _ (k : Mark) (e : listed_as s ≡ Ok k) where
    pub listed_short : m < k.contacts → Err ShortTable ≡ indexed_as s m
    unfolding indexed_as indexed_by
    listed_short h = rw (e, lt-ltb m k.contacts h) refl

    pub listed_whole : k.contacts ≤ m → Ok k ≡ indexed_as s m
    unfolding indexed_as indexed_by
    listed_whole h = rw (e, le-ltb m k.contacts h) refl

pub few_marked : (l : Result Mark Refusal) (k : Mark) → Few l → l ≡ Ok k → k.contacts < 4294967296
few_marked l k f e = rw e at f

pub count_marked : (l : Result Mark Refusal) (k : Mark) → l ≡ Ok k → k.contacts ≡ count_in l
unfolding count_in
count_marked l k e = rw e refl

pub count_refused : (l : Result Mark Refusal) (why : Refusal) → l ≡ Err why → 0 ≡ count_in l
unfolding count_in
count_refused l why e = rw e refl

-- ---- what a caller knows of an index that was built
indexed_by_lem : (m : ℕ) (l : Result Mark Refusal) (n top : ℕ) → indexed_by m l ≡ Ok (record { contacts = n; largest = top }) → (l ≡ Ok (record { contacts = n; largest = top })) × (n ≤ m)
unfolding indexed_by
indexed_by_lem m (Err why) n top e = marked_refused n top why e
indexed_by_lem m (Ok k) n top e =
    cases (ltb m k.contacts)
    (λ u. marked_refused n top ShortTable (rw u at e))
    (λ u. let z : ◌≡◌ {A = Result Mark Refusal} (Ok k) (Ok (record { contacts = n; largest = top })) = rw u at e in
    let y : ◌≡◌ {A = Mark} k (record { contacts = n; largest = top }) = cc in
    (z, omega (arith, ltb-false m k.contacts u, ap (λ (x : Mark). x.contacts) y)))

module _ (s : List ℕ) (m n top : ℕ) (e : indexed_as s m ≡ Ok (record { contacts = n; largest = top })) where
  pub indexed_listed : listed_as s ≡ Ok (record { contacts = n; largest = top })
  unfolding indexed_as
  indexed_listed = (indexed_by_lem m (listed_as s) n top e).0

  pub indexed_fits : n ≤ m
  unfolding indexed_as
  indexed_fits = (indexed_by_lem m (listed_as s) n top e).1

  pub indexed_is : (rows : List Row) → rows ≡ index_after s m → rows ≡ index_of s m
  unfolding index_after index_by
  indexed_is rows q = rw e at q

-- ---- what is answered says how many contacts are indexed: none after a refusal
index_by_some : (s : List ℕ) (m : ℕ) (l : Result Mark Refusal) → indexed_as s m ≡ l → (0 < count_in l → Sound s (count_in l)) × (count_in l ≤ m)
unfolding count_in Checked
index_by_some s m (Err why) e = (λ h. absurd (omega arith), omega arith)
index_by_some s m (Ok k) e =
    let A = accepted s k.contacts k.largest (indexed_listed s m k.contacts k.largest e) in
    (λ h. record { short = A.short; whole = A.whole; checked = (0, k.largest, A.entries) }, indexed_fits s m k.contacts k.largest e)

few_some : (l : Result Mark Refusal) → Few l → count_in l < 4294967296
unfolding count_in
few_some (Err why) f = omega arith
few_some (Ok m) f = f

-- the records of the contacts, and zero behind them, are all that there are
laid : (w was : List Row) → length w ≡ length was → sets was 0 w ≡ w
laid w was e =
    let z : 0 + length w ≡ length w = zero-add (length w) in
    let b : sets was 0 w ≡ w ++ drop (0 + length w) was = sets-eq w was 0 (omega arith) in
    b ∙ rw (drop_of_length-le was {i = 0 + length w} (omega arith)) (append-nil w)

bare_length : (s : List ℕ) (n m : ℕ) → n ≤ m → length (rows_from s n 5 ++ replicate (m - n) no_row) ≡ m
bare_length s n m h = length-append (rows_from s n 5) (replicate (m - n) no_row) ∙ omega (arith, length_rows s n 5, length-replicate (m - n) no_row)

none : (s : List ℕ) (m : ℕ) → rows_from s 0 5 ++ replicate (m - 0) no_row ≡ replicate m no_row
unfolding rows_from
none s m = let y : m - 0 ≡ m = omega arith in rw y refl

rows_some : (s : List ℕ) (m : ℕ) (l : Result Mark Refusal) → indexed_as s m ≡ l → chained (count_in l) (count_in l) (rows_from s (count_in l) 5 ++ replicate (m - count_in l) no_row) ≡ index_by l s m
unfolding count_in index_by index_of bare_of chained
rows_some s m (Err why) e = none s m
rows_some s m (Ok k) e =
    let c : k.contacts ≡ count_of s = (accepted s k.contacts k.largest (indexed_listed s m k.contacts k.largest e)).count in rw (← c) refl

module _ (s : List ℕ) (m : ℕ) (l : Result Mark Refusal) (el : l ≡ indexed_as s m) (n : ℕ) (en : n ≡ count_in l) where
  pub index_sound : 0 < n → Sound s n
  index_sound h = rw en ((index_by_some s m l (sym el)).0 (rw en at h))

  pub index_room : (r : ℕ) → m ≡ r → n ≤ r
  index_room r er = rw (← er, en) (index_by_some s m l (sym el)).1

  pub index_few : Few l → n < 4294967296
  index_few f = rw en (few_some l f)

  pub index_done : (was filled last : List Row) → m ≡ length was → filled ≡ sets was 0 (rows_from s n 5 ++ replicate (m - n) no_row) → last ≡ chained n n filled → last ≡ index_after s m
  unfolding index_after
  index_done was filled last em ef e =
      let f : filled ≡ rows_from s n 5 ++ replicate (m - n) no_row = ef ∙ laid _ was (bare_length s n m (index_room m refl) ∙ em) in
      e ∙ rw (f, en) (rows_some s m l (sym el)) ∙ ap (λ (x : Result Mark Refusal). index_by x s m) el
