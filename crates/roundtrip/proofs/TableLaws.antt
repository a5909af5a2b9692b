-- What a table says that a reading left: the records that were read. Assumes nothing.
use Rattle.std.specs.Prelude.{Ok}
use mathlib.Core.Path.{◌≡◌, refl, sym, ap, ◌∙◌}
use mathlib.Core.Bool.{Bool, true, false}
use mathlib.Core.List.{List, [], ◌∷◌, ◌++◌, append_assoc, map}
use Prim.Native.Nat.{ℕ, zero, suc, ◌+◌, ◌*◌, ◌-◌, ◌/◌, ◌<◌}
use native.Mathlib.Nat.{not-suc-le-zero}
use native.Mathlib.Omega.{arith}
use lib.ListN.{length, get_or, drop, length-map}
use lib.Seq.{get_or-drop}
use borrow.Author.Tests.{eq-eqb, ne_eqb}
use Rattle.adif.specs.Records.{records, refused, total}
use Rattle.adif.specs.Grammar.{Field}
use Rattle.adif.specs.Reading as reading
use Rattle.adif.specs.Reading.{row_name, row_value, read_text}
use Rattle.adif.specs.Told.{field_of}
use Rattle.adif.proofs.Mapped.{total_map}
use Rattle.hand.specs.Rows.{numbered, laid}
use Rattle.reader.specs.Table.{laid_from, zeros, answer_of, table_of, answer_to, table_after}
use Rattle.rowcheck.specs.Check.{Row, record_in}
use Rattle.writer.specs.Rows.{row_at, rows_from, rows_of, row_field, ends_before, joined, grouped, records_of}
use Rattle.trip.proofs.Back.{told}

-- each record has a field
abbrev pub AllSome : {F : Type 0} → List (List F) → Type 0
AllSome [] = Unit {0}
AllSome (r ∷ rs) = (0 < length r) × AllSome rs

-- ---- the rows of a table, one after the other
row_on : (t : List ℕ) (i : ℕ) → row_at t (suc i) ≡ row_at (drop 5 t) i
row_on t i =
    let e : (k : ℕ) → get_or t (suc i * 5 + k) 0 ≡ get_or (drop 5 t) (i * 5 + k) 0 = λ k. (let z : suc i * 5 + k ≡ 5 + (i * 5 + k) = omega arith in rw z (sym (get_or-drop 5 t (i * 5 + k) 0))) in
    let e₀ : get_or t (suc i * 5) 0 ≡ get_or (drop 5 t) (i * 5) 0 = (let z : suc i * 5 ≡ 5 + i * 5 = omega arith in rw z (sym (get_or-drop 5 t (i * 5) 0))) in
    rw (e₀, e 1, e 2, e 3, e 4) refl

rows_on : (t : List ℕ) (i k : ℕ) → rows_from t (suc i) k ≡ rows_from (drop 5 t) i k
rows_on t i zero = refl
rows_on t i (suc k) = rw (row_on t i, rows_on t (suc i) k) refl

rows_laid : (n : ℕ) (r : List reading.Row) (rest : List ℕ) (k : ℕ) → rows_from (laid n r ++ rest) 0 (length r + k) ≡ map (numbered n) r ++ rows_from rest 0 k
rows_laid n [] rest k =
    let z : 0 + k ≡ k = omega arith in
    rw z refl
rows_laid n (x ∷ xs) rest k =
    let z : length (x ∷ xs) + k ≡ suc (length xs + k) = omega arith in
    rw z (ap (λ (l : List Row). numbered n x ∷ l) (rows_on (laid n (x ∷ xs) ++ rest) 0 (length xs + k) ∙ rows_laid n xs rest k))

-- the rows of records, the first of which is record n
abbrev rows_all : ℕ → List (List reading.Row) → List Row
rows_all n [] = []
rows_all n (r ∷ rs) = map (numbered n) r ++ rows_all (suc n) rs

rows_all_lem : (n : ℕ) (rs : List (List reading.Row)) (tail : List ℕ) → rows_from (laid_from n rs ++ tail) 0 (total rs) ≡ rows_all n rs
rows_all_lem n [] tail = refl
rows_all_lem n (r ∷ rs) tail =
    rw (append_assoc (laid n r) (laid_from (suc n) rs) tail) (rows_laid n r (laid_from (suc n) rs ++ tail) (total rs) ∙ rw (rows_all_lem (suc n) rs tail) refl)

-- ---- by records
next_other : (n : ℕ) (rs : List (List reading.Row)) → AllSome rs → ends_before n (rows_all (suc n) rs) ≡ true
next_other n [] s = refl
next_other n ([] ∷ rs) s = absurd (not-suc-le-zero s.0)
next_other n ((x ∷ xs) ∷ rs) s = rw (ne_eqb n (suc n) (λ e. omega arith)) refl

group_on : (n : ℕ) (x : reading.Row) (xs : List reading.Row) (rest : List Row) → ends_before n rest ≡ true
    → grouped (map (numbered n) (x ∷ xs) ++ rest) ≡ map (numbered n) (x ∷ xs) ∷ grouped rest
group_on n x [] rest e = rw e refl
group_on n x (y ∷ ys) rest e = rw (eq-eqb n n refl, group_on n y ys rest e) refl

abbrev each : ℕ → List (List reading.Row) → List (List Row)
each n [] = []
each n (r ∷ rs) = map (numbered n) r ∷ each (suc n) rs

groups : (n : ℕ) (rs : List (List reading.Row)) → AllSome rs → grouped (rows_all n rs) ≡ each n rs
groups n [] s = refl
groups n ([] ∷ rs) s = absurd (not-suc-le-zero s.0)
groups n ((x ∷ xs) ∷ rs) s = group_on n x xs (rows_all (suc n) rs) (next_other n rs s.1) ∙ rw (groups (suc n) rs s.1) refl

-- ---- as fields
module _ (s : List ℕ) where
  field_is : (n : ℕ) (x : reading.Row) → row_field s (numbered n x) ≡ field_of s x
  unfolding row_name row_value
  field_is n x = refl

  fields_are : (n : ℕ) (r : List reading.Row) → map (row_field s) (map (numbered n) r) ≡ map (field_of s) r
  fields_are n [] = refl
  fields_are n (x ∷ xs) = rw (field_is n x, fields_are n xs) refl

  records_are : (n : ℕ) (rs : List (List reading.Row)) → map (map (row_field s)) (each n rs) ≡ map (map (field_of s)) rs
  records_are n [] = refl
  records_are n (r ∷ rs) = rw (fields_are n r, records_are (suc n) rs) refl

  pub table_says : (rs : List (List reading.Row)) → AllSome rs → (tail : List ℕ) → records_of s (rows_of (laid_from 1 rs ++ tail) (total rs)) ≡ map (map (field_of s)) rs
  unfolding rows_of
  table_says rs some tail = rw (rows_all_lem 1 rs tail, groups 1 rs some) (records_are 1 rs)

-- ---- how many rows
joined_total : (b : Bool) (r : Row) (gs : List (List Row)) → total (joined b r gs) ≡ suc (total gs)
joined_total true r gs = omega arith
joined_total false r [] = refl
joined_total false r (g ∷ gs) = omega arith

grouped_total : (rs : List Row) → total (grouped rs) ≡ length rs
grouped_total [] = refl
grouped_total (r ∷ rs) = joined_total (ends_before (record_in r) rs) r (grouped rs) ∙ ap suc (grouped_total rs)

rows_count : (t : List ℕ) (i k : ℕ) → length (rows_from t i k) ≡ k
rows_count t i zero = refl
rows_count t i (suc k) = ap suc (rows_count t (suc i) k)

-- the records of a table have as many fields as it has rows
pub records_total : (text t : List ℕ) (count : ℕ) → total (records_of text (rows_of t count)) ≡ count
unfolding rows_of
records_total text t count = total_map (row_field text) (grouped (rows_from t 0 count)) ∙ grouped_total (rows_from t 0 count) ∙ rows_count t 0 count

-- ---- a reading that tells records
some_of : {F G : Type 0} (f : F → G) (rs : List (List F)) → AllSome (map (map f) rs) → AllSome rs
some_of f [] s = tt
some_of f (r ∷ rs) s = (rw (length-map r f) at s.0, some_of f rs s.1)

-- what the reading of s tells is what the answer counts and the table says
module _ (s table : List ℕ) (R : List (List Field)) (some : AllSome R) where
  by_outcome : (o : reading.RowsRead) → told s o ≡ records R → (n : ℕ) → (answer_of o ≡ Ok (record { records = length R; rows = total R })) × (records_of s (rows_of (table_of o n) (total R)) ≡ R)
  by_outcome (records rs) e n =
      let q : map (map (field_of s)) rs ≡ R = cc in
      let k : AllSome rs = some_of (field_of s) rs (rw q some) in
      let l : length rs ≡ length R = sym (length-map rs (map (field_of s))) ∙ ap length q in
      let t : total rs ≡ total R = sym (total_map (field_of s) rs) ∙ ap total q in
      (rw (l, t) refl, rw (← t) (table_says s rs k (zeros (n - length (laid_from 1 rs))) ∙ q))
  by_outcome (refused w) e n = absurd (let z : ◌≡◌ {A = ℕ} 0 1 = cc in omega arith)

  module _ (e : told s (read_text s (length table / 5)) ≡ records R) where
    pub answer_is : answer_to s table ≡ Ok (record { records = length R; rows = total R })
    unfolding answer_to
    answer_is = (by_outcome (read_text s (length table / 5)) e (length table)).0

    pub says_again : records_of s (rows_of (table_after s table) (total R)) ≡ R
    unfolding table_after
    says_again = (by_outcome (read_text s (length table / 5)) e (length table)).1
