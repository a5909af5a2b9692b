-- The walk over a table that a reading left: the rows of one record after the other. Assumes nothing.
use Rattle.std.specs.Prelude.{Result, Ok}
use Rattle.refusals.specs.declared.Refusal.{Refusal}
use Rattle.reader.specs.declared.Reading.{Reading}
use mathlib.Core.Path.{◌≡◌, refl, sym, ap, ◌∙◌}
use mathlib.Core.List.{List, [], ◌∷◌, ◌++◌, append_assoc, append-nil, map}
use Prim.Native.Nat.{ℕ, zero, suc, ◌+◌, ◌*◌, ◌-◌, ◌/◌, ◌≤◌, ◌<◌}
use native.Mathlib.Nat.{not-suc-le-zero, zero-add}
use native.Mathlib.Numerals.{add-one}
use native.Mathlib.Omega.{arith}
use lib.Dec.{eqb}
use lib.ListN.{length, get_or, drop, set, length-append, length-drop}
use lib.Seq.{get_or-drop, drop-drop, drop_at, sets}
use borrow.Author.Tests.{eq-eqb, ne_eqb}
use Rattle.text.specs.Pick.{pick}
use Rattle.adif.specs.Records.{records, refused}
use Rattle.adif.specs.Reading.{Row as Field, RowsRead, read_text}
use Rattle.hand.specs.Rows.{numbered, laid}
use Rattle.hand.proofs.TableLaws.{laid_length}
use Rattle.reader.specs.Table.{laid_from, zeros, answer_of, table_of}
use Rattle.rowcheck.specs.Check.{record_in}
use Rattle.rowcheck.specs.Check
use Rattle.writer.specs.Rows.{row_at, rows_from}
use Rattle.writer.proofs.RowLaws.{rest, rows_cons}
use Rattle.entries.specs.Row.{Row, entry_row}
use Rattle.entries.specs.Filled.{ReadInto}
use Rattle.entries.specs.Walked.{size_in, rows_of_records, entry_rows}
use Rattle.entries.proofs.ReadFit.{AllFit, Fit, FitRead, text_fit}

-- ---- the rows from row i on are those of the table without its first i rows
row_shift : (t : List ℕ) (i j : ℕ) → row_at t (i + j) ≡ row_at (drop (i * 5) t) j
row_shift t i j =
    let e : (k : ℕ) → get_or t ((i + j) * 5 + k) 0 ≡ get_or (drop (i * 5) t) (j * 5 + k) 0 = λ k. (let z : (i + j) * 5 + k ≡ i * 5 + (j * 5 + k) = omega arith in rw z (sym (get_or-drop (i * 5) t (j * 5 + k) 0))) in
    let e₀ : get_or t ((i + j) * 5) 0 ≡ get_or (drop (i * 5) t) (j * 5) 0 = (let z : (i + j) * 5 ≡ i * 5 + j * 5 = omega arith in rw z (sym (get_or-drop (i * 5) t (j * 5) 0))) in
    rw (e₀, e 1, e 2, e 3, e 4) refl

rows_shift : (t : List ℕ) (i j k : ℕ) → rows_from t (i + j) k ≡ rows_from (drop (i * 5) t) j k
rows_shift t i j zero = refl
rows_shift t i j (suc k) =
    let z : suc (i + j) ≡ i + suc j = omega arith in
    rw (z, row_shift t i j, rows_shift t i (suc j) k) refl

pub rows_from_lem : (t : List ℕ) (i k : ℕ) → rows_from t i k ≡ rows_from (drop (i * 5) t) 0 k
rows_from_lem t i k = let z : i ≡ i + 0 = omega arith in ap (λ (x : ℕ). rows_from t x k) z ∙ rows_shift t i 0 k

rows_laid : (n : ℕ) (r : List Field) (rest : List ℕ) (k : ℕ) → rows_from (laid n r ++ rest) 0 (length r + k) ≡ map (numbered n) r ++ rows_from rest 0 k
rows_laid n [] rest k =
    let z : 0 + k ≡ k = omega arith in
    rw z refl
rows_laid n (x ∷ xs) rest k =
    let z : length (x ∷ xs) + k ≡ suc (length xs + k) = omega arith in
    rw z
    (ap (λ (l : List Check.Row). numbered n x ∷ l) (rows_shift (laid n (x ∷ xs) ++ rest) 1 0 (length xs + k) ∙ rows_laid n xs rest k))

-- ---- how many of them are of record n
size_on : (n : ℕ) (r : List Field) (more : List Check.Row) → size_in n (map (numbered n) r ++ more) ≡ length r + size_in n more
size_on n [] more = sym (zero-add (size_in n more))
size_on n (x ∷ xs) more = rw (eq-eqb n n refl, size_on n xs more) (omega arith)

zeros_first : (z k : ℕ) → record_in (row_at (zeros z) k) ≡ 0
zeros_first z k = by (k * 5) z
  where
    by : (i z : ℕ) → get_or (zeros z) i 0 ≡ 0
    by i zero = refl
    by zero (suc z) = refl
    by (suc i) (suc z) = by i z

-- behind the last row of record n stands another record, or nothing, or zero
size_none : (n : ℕ) (rest : List (List Field)) (z k : ℕ) → 0 < n → AllFit rest → size_in n (rows_from (laid_from (suc n) rest ++ zeros z) 0 k) ≡ 0
size_none n rest z zero p f = refl
size_none n [] z (suc k) p f = rw (zeros_first z 0, ne_eqb 0 n (λ e. omega arith)) refl
size_none n ([] ∷ rest) z (suc k) p f = absurd (not-suc-le-zero f.0)
size_none n ((x ∷ xs) ∷ rest) z (suc k) p f = rw (ne_eqb (suc n) n (λ e. omega arith)) refl

-- ---- a record r ahead in the table, from row `first` on
module _ (t : List ℕ) (first n : ℕ) (r : List Field) (rest : List (List Field)) (z : ℕ) (e : drop (first * 5) t ≡ laid_from n (r ∷ rest) ++ zeros z) where
  apart : drop (first * 5) t ≡ laid n r ++ (laid_from (suc n) rest ++ zeros z)
  apart = e ∙ append_assoc (laid n r) (laid_from (suc n) rest) (zeros z)

  pub long : first * 5 ≤ length t → (first + length r) * 5 ≤ length t
  long h =
      omega (
        arith,
        ap length apart,
        length-drop (first * 5) t,
        length-append (laid n r) (laid_from (suc n) rest ++ zeros z),
        laid_length n r,
      )

  pub rows_here : rows_from t first (length r) ≡ map (numbered n) r
  rows_here =
      let q : length r ≡ length r + 0 = omega arith in
      rows_from_lem t first (length r)
      ∙ rw (apart, q) (rows_laid n r (laid_from (suc n) rest ++ zeros z) 0 ∙ append-nil (map (numbered n) r))

  size_here : first * 5 ≤ length t → 0 < n → AllFit rest → size_in n (rows_from t first (length t / 5 - first)) ≡ length r
  size_here h p f =
      let l : (first + length r) * 5 ≤ length t = long h in
      let q : length t / 5 - first ≡ length r + (length t / 5 - first - length r) = omega arith in
      let k : ℕ = length t / 5 - first - length r in
      rw (rows_from_lem t first (length t / 5 - first), apart, q)
      (ap (size_in n) (rows_laid n r (laid_from (suc n) rest ++ zeros z) k)
      ∙ size_on n r (rows_from (laid_from (suc n) rest ++ zeros z) 0 k)
      ∙ rw (size_none n rest z k p f) (omega arith))

  pub next_here : drop ((first + length r) * 5) t ≡ laid_from (suc n) rest ++ zeros z
  next_here =
      let q : (first + length r) * 5 ≡ first * 5 + 5 * length r = omega arith in
      rw q (sym (drop-drop (5 * length r) (first * 5) t) ∙ rw apart (drop_at (laid n r) (laid_from (suc n) rest ++ zeros z) (5 * length r) (laid_length n r)))

-- ---- what is filled, and what is left: k records are done, and the rows of the others begin at row `first`
pub record Part (text table : List ℕ) (n : ℕ) (was rows : List Row) (first k : ℕ) : Type 0 where
  pub rest : List (List Field)
  pub behind : ℕ
  pub ahead : drop (first * 5) table ≡ laid_from (suc k) rest ++ zeros behind
  pub fit : AllFit rest
  pub left : k + length rest ≡ n
  pub few : n ≤ 65535
  pub small : first ≤ k * 256
  pub inside : first * 5 ≤ length table
  pub same : sets rows k (rows_of_records text (suc k) first rest) ≡ sets was 0 (entry_rows text (read_text text (length table / 5)))

unfoldable pub Filling : List ℕ → List ℕ → ℕ → List Row → List Row → ℕ → ℕ → Type 0
Filling text table n was rows first k = Part text table n was rows first k

-- ---- the records that were read
pub reading_is : (n used m more : ℕ) → ◌≡◌ {A = Result Reading Refusal} (Ok (record { records = n; rows = used })) (Ok (record { records = m; rows = more })) → (n ≡ m) × (used ≡ more)
reading_is n used m more e =
    let y : ◌≡◌ {A = Reading} (record { records = n; rows = used }) (record { records = m; rows = more }) = cc in
    (ap (λ (z : Reading). z.records) y, ap (λ (z : Reading). z.rows) y)

module _ (text table : List ℕ) (n : ℕ) (R : ReadInto text table n) where
  pub record Found : Type 0 where
    pub found : List (List Field)
    pub is : read_text text (length table / 5) ≡ records found
    pub counted : length found ≡ n
    pub fits : Fit found
    pub laid_so : table ≡ laid_from 1 found ++ zeros (length table - length (laid_from 1 found))

  pub found_in : Found
  found_in = by (read_text text (length table / 5)) refl (text_fit text (length table / 5)) R.answer R.shown
    where
      by : (o : RowsRead) → read_text text (length table / 5) ≡ o → FitRead o → answer_of o ≡ Ok (record { records = n; rows = R.used }) → table ≡ table_of o (length table) → Found
      by (records rs) e f a t = record { found = rs; is = e; counted = (reading_is _ _ _ _ a).0; fits = f; laid_so = t }
      by (refused w) e f a t = absurd (let z : ◌≡◌ {A = ℕ} 0 1 = cc in omega arith)

  pub fill_start : (was : List Row) → Filling text table n was was 0 0
  unfolding Filling entry_rows
  fill_start was = record {
    rest = found_in.found;
    behind = length table - length (laid_from 1 found_in.found);
    ahead = found_in.laid_so;
    fit = found_in.fits.0;
    left = zero-add (length found_in.found) ∙ found_in.counted;
    few = omega (arith, found_in.counted, found_in.fits.1);
    small = omega arith;
    inside = omega arith;
    same = rw found_in.is refl;
  }

  pub fill_few : n ≤ 65535
  fill_few = omega (arith, found_in.counted, found_in.fits.1)

-- ---- one record more
uncons : (k n : ℕ) → k < n → (rest : List (List Field)) → k + length rest ≡ n → (r : List Field) × (rs : List (List Field)) × (rest ≡ r ∷ rs)
uncons k n h [] e = absurd (omega arith)
uncons k n h (r ∷ rs) e = (r, rs, refl)

module _ (text table : List ℕ) (n : ℕ) (was rows : List Row) (first k : ℕ) (h : k < n) (q : Filling text table n was rows first k) where
  P : Part text table n was rows first k
  unfolding Filling
  P = q

  record Step : Type 0 where
    here : List Field
    others : List (List Field)
    ahead : drop (first * 5) table ≡ laid_from (suc k) (here ∷ others) ++ zeros P.behind
    fit : AllFit (here ∷ others)
    left : k + suc (length others) ≡ n
    same : sets rows k (rows_of_records text (suc k) first (here ∷ others)) ≡ sets was 0 (entry_rows text (read_text text (length table / 5)))

  S : Step
  S =
      let (r, rs, e) = uncons k n h P.rest P.left in
      record {
        here = r;
        others = rs;
        ahead = rw e at P.ahead;
        fit = rw e at P.fit;
        left = rw e at P.left;
        same = rw e at P.same;
      }

  module _ (count : ℕ) (ec : count ≡ size_in (k + 1) (rows_from table first (length table / 5 - first))) where
    counted : count ≡ length S.here
    counted =
        rw (add-one k) at ec
        ∙ size_here table first (suc k) S.here S.others P.behind S.ahead P.inside (omega arith) S.fit.2

    pub fill_fits : first + count < 4294967296
    fill_fits = omega (arith, counted, S.fit.1, P.small, P.few)

    pub fill_inside : (first + count) * 5 ≤ length table
    fill_inside = rw counted (long table first (suc k) S.here S.others P.behind S.ahead P.inside)

    pub fill_on : (row : Row) → row ≡ entry_row text (rows_from table first count) first count → Filling text table n was (set rows k row) (first + count) (k + 1)
    unfolding Filling
    fill_on row er =
        let e : row ≡ entry_row text (map (numbered (suc k)) S.here) first (length S.here) =
        rw (counted, rows_here table first (suc k) S.here S.others P.behind S.ahead) at er in
        record {
          rest = S.others;
          behind = P.behind;
          ahead = rw (counted, add-one k) (next_here table first (suc k) S.here S.others P.behind S.ahead);
          fit = S.fit.2;
          left = omega (arith, S.left);
          few = P.few;
          small = omega (arith, counted, S.fit.1, P.small);
          inside = fill_inside;
          same = rw (counted, add-one k, e) S.same;
        }

pub fill_end : (text table : List ℕ) (n : ℕ) (was rows : List Row) (first k : ℕ) → n ≤ k → Filling text table n was rows first k
    → rows ≡ sets was 0 (entry_rows text (read_text text (length table / 5)))
unfolding Filling
fill_end text table n was rows first k h q = ended q.rest (omega (arith, q.left)) q.same
  where
    ended : (rest : List (List Field)) → length rest ≡ 0 → sets rows k (rows_of_records text (suc k) first rest) ≡ sets was 0 (entry_rows text (read_text text (length table / 5)))
        → rows ≡ sets was 0 (entry_rows text (read_text text (length table / 5)))
    ended [] e s = s
    ended (r ∷ rs) e s = absurd (omega arith)

-- ---- how many rows have the number, one row after the other: those before row i have it
module _ (t : List ℕ) (first number i size : ℕ) (f : first ≤ i) (e : i - first + size_in number (rows_from t i (length t / 5 - i)) ≡ size) where
  module _ (h : i < length t / 5) where
    opened : i - first + pick (eqb (get_or t (i * 5) 0) number) (suc (size_in number (rest t (length t / 5) i h))) 0 ≡ size
    opened = rw (rows_cons t (length t / 5) i h) at e

    pub size_more : get_or t (i * 5) 0 ≡ number → i + 1 - first + size_in number (rows_from t (i + 1) (length t / 5 - (i + 1))) ≡ size
    size_more n =
        let o : i - first + suc (size_in number (rows_from t (i + 1) (length t / 5 - (i + 1)))) ≡ size = rw (eq-eqb (get_or t (i * 5) 0) number n) at opened in
        omega arith

    pub size_other : (get_or t (i * 5) 0 ≡ number → ⊥) → i - first ≡ size
    size_other n =
        let o : i - first + 0 ≡ size = rw (ne_eqb (get_or t (i * 5) 0) number n) at opened in
        omega arith

  pub size_last : i ≤ length t / 5 → length t / 5 ≤ i → length t / 5 - first ≡ size
  size_last g h =
      let z : length t / 5 - i ≡ 0 = omega arith in
      let o : i - first + 0 ≡ size = rw z at e in
      omega arith
